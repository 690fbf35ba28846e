use Rattle.std.proofs.Common.{w16, rules as facts}
use Rattle.std.proofs.lemmas.Int.{to_z-of_z}
use mir.Val.{SFits}
use Rattle.maximin.proofs.Kept.{room_kept}
use Rattle.maximin.proofs.room.value_in.Goals as goal

pub returns-clause-room : goal.returns-clause-room
returns-clause-room g c = room_kept c.args.room.now c.value_within.new.tools c.as_mut_slice-levels.result.now c.value_within.new.levels
    c.as_mut_slice-levels.ensures.value c.value_within.ensures.kept

pub returns-clause-answers : goal.returns-clause-answers
returns-clause-answers g c =
    let fits : SFits w16 c.value_within.result = search facts in
    let fits_a : SFits w16 c.args.a = search facts in
    let fits_b : SFits w16 c.args.b = search facts in
    let found = rw (to_z-of_z w16 c.args.a fits_a, to_z-of_z w16 c.args.b fits_b) at c.value_within.ensures.answers in
    rw (to_z-of_z w16 c.value_within.result fits) found
