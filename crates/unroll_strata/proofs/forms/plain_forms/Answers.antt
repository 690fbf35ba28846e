use Rattle.unroll_strata.specs.Plain.{plain_item}
use Rattle.unroll_strata.proofs.PlainLemmas.{one_turned}
use Rattle.unroll_strata.proofs.forms.plain_forms.Goals as goal

pub loop-item-preserved : goal.loop-item-preserved
loop-item-preserved c =
    one_turned plain_item c.args.items.now c.loop-item.item-index c.item-item.result _ _ c.in_ok-one.one _ c.loop-item-test.true c.item-item.is c.loop-item.invariant
    c.in_ok-push.ensures.items c.in_ok-one.ensures
