use Rattle.maximin.proofs.Kept.{room_kept}
use Rattle.maximin.proofs.room.choice.Goals as goal

pub returns-clause-room : goal.returns-clause-room
returns-clause-room g c = room_kept c.args.room.now c.choice_at.new.tools c.as_mut_slice-levels.result.now c.choice_at.new.levels
    c.as_mut_slice-levels.ensures.value c.choice_at.ensures.kept
