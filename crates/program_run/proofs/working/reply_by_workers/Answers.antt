use Rattle.statement.specs.Replies.{IsReply}
use Rattle.program_words.specs.Asked.{query_of}
use Rattle.program_run.proofs.Works.{told_is, written_is, told_written}
use Rattle.program_run.proofs.working.reply_by_workers.Goals as goal

pub returns-in-Told : goal.returns-in-Told
returns-in-Told g c =
    told_is g.G.Game (IsReply (query_of c.args.command.now) c.args.bytes.now) c.in_ok-reply.field-0 c.in-Told.reply c.in_ok-reply.ensures c.in-Told.is

pub returns-in-ToWrite : goal.returns-in-ToWrite
returns-in-ToWrite g c =
    let is = IsReply (query_of c.args.command.now) c.args.bytes.now in
    told_written g.G.Game is c.in-ToWrite.deepening c.told.result
    (written_is g.G.Game is c.in_ok-reply.field-0 c.in-ToWrite.deepening c.in_ok-reply.ensures c.in-ToWrite.is) c.told.ensures
