use Rattle.maximin.proofs.Kept.{room_kept}
use Rattle.maximin.proofs.room.first_reply.Goals as goal

pub returns-clause-room : goal.returns-clause-room
returns-clause-room g c = room_kept c.args.room.now c.reply_at.new.tools c.as_mut_slice-levels.result.now c.reply_at.new.levels
    c.as_mut_slice-levels.ensures.value c.reply_at.ensures.kept
