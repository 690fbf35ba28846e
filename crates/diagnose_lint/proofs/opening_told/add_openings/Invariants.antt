use Rattle.rules_clauses.specs.Numbers.{BeginsWith}
use Rattle.diagnose_lint.proofs.opening_told.add_openings.Given as goal

abbrev pub invariant-loop-opening : goal.invariant-loop-opening
invariant-loop-opening g l = BeginsWith l.initial.output.items l.output.items
