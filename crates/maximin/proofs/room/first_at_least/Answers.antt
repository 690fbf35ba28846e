use Rattle.maximin.proofs.Kept.{room_kept}
use Rattle.maximin.proofs.room.first_at_least.Goals as goal

pub returns-clause-room : goal.returns-clause-room
returns-clause-room g c = room_kept c.args.room.now c.first_reaching.new.tools c.as_mut_slice-levels.result.now c.first_reaching.new.levels
    c.as_mut_slice-levels.ensures.value c.first_reaching.ensures.kept
