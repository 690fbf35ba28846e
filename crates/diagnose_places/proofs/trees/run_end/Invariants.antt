use Rattle.std.proofs.Common.{◌≡◌, ◌++◌, map, drop}
use Rattle.std.specs.Prelude.{slice_range}
use Rattle.statement.specs.Lexical.{lower, name_front}
use Rattle.diagnose_places.proofs.trees.run_end.Given as goal

abbrev pub invariant-loop-end : goal.invariant-loop-end
invariant-loop-end l = name_front (drop l.start l.text) ≡ map lower (slice_range l.text l.start l.end) ++ name_front (drop l.end l.text)
