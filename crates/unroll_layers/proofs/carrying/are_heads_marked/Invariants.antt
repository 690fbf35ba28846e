use Rattle.std.proofs.Common.{ℕ, ◌<◌, get_or}
use Rattle.statement.specs.Kept.{Kept}
use Rattle.ground_instances.specs.GroundView.{instances_of}
use Rattle.unroll_layers.specs.Owners.{IsOf}
use Rattle.unroll_layers.specs.ByNumber.{IsMarked}
use Rattle.unroll_layers.proofs.carrying.are_heads_marked.Given as goal

abbrev pub invariant-loop-place : goal.invariant-loop-place
invariant-loop-place l = (k : ℕ) → k < l.place → (d : Kept) → IsOf l.befores (get_or (instances_of l.ground) k d)
    → IsMarked l.marks (get_or (instances_of l.ground) k d).head
