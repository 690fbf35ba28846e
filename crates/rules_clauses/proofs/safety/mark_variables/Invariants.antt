use Rattle.std.proofs.Common.{drop}
use Rattle.rules_clauses.proofs.MarkLemmas.{Marking}
use Rattle.rules_clauses.proofs.safety.mark_variables.Given as goal

abbrev pub invariant-loop-part : goal.invariant-loop-part
invariant-loop-part l = Marking l.fn.marks l.marks l.parts (drop l.part-index l.parts)
