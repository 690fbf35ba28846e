use Rattle.std.proofs.Common.{drop}
use Rattle.rules_clauses.specs.StoreView.{data_of}
use Rattle.rules_clauses.proofs.MarkLemmas.{MarkingBody}
use Rattle.rules_clauses.proofs.safety.mark_bound.Given as goal

abbrev pub invariant-loop-number : goal.invariant-loop-number
invariant-loop-number l = MarkingBody l.from (data_of l.store) l.fn.marks l.marks l.body (drop l.number-index l.body)
