use Rattle.rules_clauses.specs.StoreView.{data_of}
use Rattle.rules.proofs.MeaningLemmas.{bounded_more}
use Rattle.rules.proofs.meanings.bounds_of.Goals as goal

pub loop-relation-preserved : goal.loop-relation-preserved
loop-relation-preserved c =
    bounded_more (data_of c.args.store.now) c.loop-relation.bounds.items c.push.new.self.items c.bound_of_relation.result c.loop-relation.relation
    c.loop-relation.invariant c.in_ok-push.ensures.items c.bound_of_relation.ensures
