use Rattle.statement.specs.Dependence.{is_moving}
use Rattle.rules_clauses.specs.StoreView.{data_of}
use Rattle.rules.proofs.MeaningLemmas.{tested_more}
use Rattle.rules.proofs.meanings.moving_of.Goals as goal

pub loop-relation-preserved : goal.loop-relation-preserved
loop-relation-preserved c =
    tested_more (data_of c.args.store.now) is_moving c.loop-relation.tests.items c.push.new.self.items c.is_moving_relation.result
    c.loop-relation.relation c.loop-relation.invariant c.in_ok-push.ensures.items c.is_moving_relation.ensures
