use Rattle.rules_clauses.specs.StoreView.{data_of}
use Rattle.rules.proofs.MeaningLemmas.{Bounded}
use Rattle.rules.proofs.meanings.bounds_of.Given as goal

abbrev pub invariant-loop-relation : goal.invariant-loop-relation
invariant-loop-relation l = Bounded (data_of l.store) l.bounds.items l.relation
