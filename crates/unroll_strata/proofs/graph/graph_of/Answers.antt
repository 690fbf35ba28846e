use Rattle.std.proofs.Common.{◌∙◌}
use Rattle.unroll_strata.proofs.WalkLemmas.{more_arrows}
use Rattle.unroll_strata.proofs.graph.graph_of.Goals as goal

pub loop-item-preserved : goal.loop-item-preserved
loop-item-preserved c = record {
  same = more_arrows _ c.args.items.now c.loop-item.item-index c.item-item.result _ _ _ c.loop-item-test.true c.item-item.is c.loop-item.invariant.same
      c.in_ok-add_item.ensures.arrows;
  nodes = c.in_ok-add_item.ensures.nodes ∙ c.loop-item.invariant.nodes;
}
