use Rattle.rules.proofs.TextLemmas.{written_on, written_all}
use Rattle.rules.proofs.role_texts.role_texts.Goals as goal

pub loop-place-preserved : goal.loop-place-preserved
loop-place-preserved g c =
    written_on _ _ c.args.items.now c.args.places.now c.loop-place.place-index c.index-items-place.result c.loop-place.invariant
    c.loop-place-test.true c.requires c.index-items-place.is
    c.in_ok-add_role_text.ensures

pub returns : goal.returns
returns g c = written_all _ c.args.items.now c.args.places.now c.loop-place.place-index c.loop-place.invariant c.loop-place-test.false
