use Rattle.maximin.proofs.Kept.{room_kept}
use Rattle.maximin.proofs.room.choice_if_short.Goals as goal

pub returns-in-Ok-clause-room : goal.returns-in-Ok-clause-room
returns-in-Ok-clause-room g c = room_kept c.args.room.now c.try_choice_worth.new.tools c.as_mut_slice-levels.result.now c.try_choice_worth.new.levels
    c.as_mut_slice-levels.ensures.value c.try_choice_worth.ensures.kept

pub returns-in-Err-clause-room : goal.returns-in-Err-clause-room
returns-in-Err-clause-room g c = room_kept c.args.room.now c.try_choice_worth.new.tools c.as_mut_slice-levels.result.now c.try_choice_worth.new.levels
    c.as_mut_slice-levels.ensures.value c.try_choice_worth.ensures.kept
