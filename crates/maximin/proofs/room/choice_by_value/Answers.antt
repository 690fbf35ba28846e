use Rattle.maximin.proofs.Kept.{room_kept}
use Rattle.maximin.proofs.room.choice_by_value.Goals as goal

pub returns-clause-room : goal.returns-clause-room
returns-clause-room g c = room_kept c.args.room.now c.try_choice_worth.new.tools c.as_mut_slice-levels.result.now c.try_choice_worth.new.levels
    c.as_mut_slice-levels.ensures.value c.try_choice_worth.ensures.kept
