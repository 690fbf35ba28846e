use Rattle.std.proofs.Common.{drop}
use Rattle.rules_clauses.proofs.MarkLemmas.{Testing}
use Rattle.rules_clauses.proofs.safety.are_marked.Given as goal

abbrev pub invariant-loop-part : goal.invariant-loop-part
invariant-loop-part l = Testing l.marks l.parts (drop l.part-index l.parts)
