use Rattle.std.proofs.Common.{sym, ◌∙◌, arith}
use Rattle.rules_relations.specs.Relations.{relation_in}
use Rattle.unroll_layers.proofs.Growing.{all_more}
use Rattle.unroll_layers.proofs.asking.are_all_in.Goals as goal

pub loop-relation-preserved : goal.loop-relation-preserved
loop-relation-preserved c =
    all_more relation_in c.args.relations.now c.loop-relation.relation-index _ c.args.set.now (omega (arith, c.loop-relation-test.true))
    c.loop-relation.invariant (sym c.contains.ensures ∙ c.if-not-contains.false)
