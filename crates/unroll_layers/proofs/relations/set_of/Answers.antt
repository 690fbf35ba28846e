use Rattle.std.proofs.Common.{arith}
use Rattle.rules_relations.specs.Relations.{relation_in}
use Rattle.unroll_layers.proofs.Growing.{set_more}
use Rattle.unroll_layers.proofs.relations.set_of.Goals as goal

pub loop-relation-preserved : goal.loop-relation-preserved
loop-relation-preserved c =
    set_more relation_in c.args.relations.now c.loop-relation.relation-index _ c.loop-relation.set c.insert.new.self
    (omega (arith, c.loop-relation-test.true)) c.in_ok-insert.ensures c.loop-relation.invariant
