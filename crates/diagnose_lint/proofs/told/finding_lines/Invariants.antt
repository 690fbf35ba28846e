use Rattle.kif.specs.View.{trees_in}
use Rattle.diagnose_lint.specs.Pointing.{IsPointer}
use Rattle.diagnose_lint.proofs.told.finding_lines.Given as goal

abbrev pub invariant-loop-note : goal.invariant-loop-note
invariant-loop-note g l = IsPointer (trees_in l.items) l.pointer
