use Rattle.std.specs.Prelude.{ℕ, ◌<◌}
use Rattle.unroll.specs.Marks.{IsMarked}
use Rattle.unroll.proofs.marking.are_all_marked.Given as goal

abbrev pub invariant-loop-place : goal.invariant-loop-place
invariant-loop-place l = (k : ℕ) → k < l.place → IsMarked l.marks k
