use Rattle.statement.specs.Clause.{relation_eq}
use Rattle.statement.specs.Profile.{does_relation}
use Rattle.rules_clauses.specs.StoreView.{data_of}
use Rattle.rules.proofs.MeaningLemmas.{Tested}
use Rattle.rules.proofs.meanings.moves_of.Given as goal

abbrev pub invariant-loop-relation : goal.invariant-loop-relation
invariant-loop-relation l = Tested (data_of l.store) (λ q. relation_eq q does_relation) l.tests.items l.relation
