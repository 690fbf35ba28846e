use Rattle.std.proofs.Common.{drop}
use Rattle.rules_clauses.specs.StoreView.{data_of}
use Rattle.rules_clauses.proofs.MarkLemmas.{TestingBody}
use Rattle.rules_clauses.proofs.safety.are_needed_marked.Given as goal

abbrev pub invariant-loop-number : goal.invariant-loop-number
invariant-loop-number l = TestingBody l.from (data_of l.store) l.marks l.body (drop l.number-index l.body)
