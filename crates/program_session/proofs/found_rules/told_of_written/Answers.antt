use Rattle.program_searches.specs.Replies.{reply_of}
use Rattle.program_session.proofs.FoundTexts.{told_written, told_refused}
use Rattle.program_session.proofs.found_rules.told_of_written.Goals as goal

pub returns-in-Answer-clause-told : goal.returns-in-Answer-clause-told
returns-in-Answer-clause-told g c = λ ranges rules h.
    told_written ranges rules c.deref.result.now (reply_of c.args.reply.now) c.told_of_line.result h c.in-Answer.is c.deref.ensures.value
    c.told_of_line.ensures.told

pub returns-in-Refused-clause-told : goal.returns-in-Refused-clause-told
returns-in-Refused-clause-told g c = λ ranges rules h.
    told_refused ranges rules (reply_of c.args.reply.now) c.told_again.result h c.in-Refused.is c.told_again.ensures.status c.told_again.ensures.bytes
