use Rattle.maximin.proofs.Kept.{room_kept}
use Rattle.maximin.proofs.room.reply_if_short.Goals as goal

pub returns-in_default-clause-room : goal.returns-in_default-clause-room
returns-in_default-clause-room g c = room_kept c.args.room.now c.try_reply_worth.new.tools c.as_mut_slice-levels.result.now c.try_reply_worth.new.levels
    c.as_mut_slice-levels.ensures.value c.try_reply_worth.ensures.kept

pub returns-clause-room : goal.returns-clause-room
returns-clause-room g c = room_kept c.args.room.now c.try_reply_worth.new.tools c.as_mut_slice-levels.result.now c.try_reply_worth.new.levels
    c.as_mut_slice-levels.ensures.value c.try_reply_worth.ensures.kept
