use Rattle.std.proofs.Common.{refl}
use Rattle.rules_relations.specs.Relations.{relation_in}
use Rattle.rules_relations.proofs.Gathered.{one_set, among_first}
use Rattle.rules_relations.proofs.sets.insert_all.Goals as goal

pub loop-relation-preserved : goal.loop-relation-preserved
loop-relation-preserved c = λ p.
    one_set _ _ _ _ _ _ (c.in_ok-insert.ensures p)
    (among_first p relation_in c.args.relations.now c.loop-relation.relation-index _ _ c.loop-relation-test.true refl)
    (c.loop-relation.invariant p)
