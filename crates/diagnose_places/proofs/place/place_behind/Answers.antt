use Rattle.std.proofs.Common.{◌<◌, ◌^◌, ◌-◌, ◌+◌, length, refl, sym, subst, arith}
use Rattle.diagnose_places.specs.Places.{IsPlace}
use Rattle.diagnose_places.proofs.Along.{placed_after, place_is_small}
use Rattle.diagnose_places.proofs.place.place_behind.Goals as goal

pub loop-at-preserved : goal.loop-at-preserved
loop-at-preserved c = λ within placed.
    let text = c.args.text.now in
    let at = c.loop-at.at in
    let here = c.loop-at.invariant within placed in
    let inside : at < length text = grind (arith, c.loop-at-test.true, c.min-end.ensures) in
    let small = place_is_small text at c.loop-at.here inside here in
    let size = c.type_inv.text in
    let lines : c.loop-at.here.line < 2 ^ 64 - 1 = grind (arith, small.0, inside, size) in
    let columns : c.loop-at.here.column < 2 ^ 64 - 1 = grind (arith, small.1, inside, size) in
    subst (IsPlace text (at + 1)) (sym (c.place_after-here.ensures lines columns)) (placed_after text at _ c.loop-at.here inside refl refl here)
