use Rattle.statement.specs.Dependence.{is_moving}
use Rattle.rules_clauses.specs.StoreView.{data_of}
use Rattle.rules.proofs.MeaningLemmas.{Tested}
use Rattle.rules.proofs.meanings.moving_of.Given as goal

abbrev pub invariant-loop-relation : goal.invariant-loop-relation
invariant-loop-relation l = Tested (data_of l.store) is_moving l.tests.items l.relation
