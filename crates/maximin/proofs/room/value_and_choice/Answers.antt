use Rattle.maximin.proofs.Kept.{room_kept}
use Rattle.maximin.proofs.room.value_and_choice.Goals as goal

pub returns-clause-room : goal.returns-clause-room
returns-clause-room g c = room_kept c.args.room.now c.best_move-best.new.tools c.as_mut_slice-levels.result.now c.best_move-best.new.levels
    c.as_mut_slice-levels.ensures.value c.best_move-best.ensures.kept
