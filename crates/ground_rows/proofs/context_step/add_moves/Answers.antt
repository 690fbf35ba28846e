use Rattle.ground_rows.proofs.Facts.{moves_begin, moves_fit, moves_step}
use Rattle.ground_rows.proofs.context_step.add_moves.Goals as goal

pub loop-place-init : goal.loop-place-init
loop-place-init c = moves_begin _ _ _ _ _ c.requires.roles c.requires.terms

pub add_moves_of-requires-clause-terms : goal.add_moves_of-requires-clause-terms
add_moves_of-requires-clause-terms c =
    moves_fit _ _ _ _ _ _ _ c.args.roles.now c.args.inputs.now c.loop-place.place c.index-inputs-place.result _ c.loop-place-test.true c.requires.each
    c.index-inputs-place.is c.deref.ensures.value c.loop-place.invariant

pub loop-place-preserved : goal.loop-place-preserved
loop-place-preserved c =
    moves_step _ _ _ _ _ _ _ _ _ c.args.roles.now c.args.inputs.now c.loop-place.place c.index-inputs-place.result _ c.loop-place-test.true
    c.requires.each c.index-inputs-place.is c.deref.ensures.value c.loop-place.invariant
    c.in_ok-add_moves_of.ensures.front c.in_ok-add_moves_of.ensures.sizes c.in_ok-add_moves_of.ensures.added
