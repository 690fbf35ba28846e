use Rattle.unroll_strata.proofs.WalkLemmas.{more_links}
use Rattle.unroll_strata.proofs.graph.negations_of.Goals as goal

pub loop-item-preserved : goal.loop-item-preserved
loop-item-preserved c =
    more_links _ c.args.items.now c.loop-item.item-index c.item-item.result _ _ c.in_ok-link.link _ c.loop-item-test.true c.item-item.is c.loop-item.invariant
    c.in_ok-push.ensures.items c.in_ok-link.ensures
