use Rattle.program_replies.proofs.OneReply.{some_reply, one_reply}
use Rattle.program_replies.proofs.laws.each_input_has_one_reply.Goals as goal

pub returns : goal.returns
returns c = record { some = some_reply; once = one_reply c.same_play_is_played_the_same.ensures.reply }
