use Rattle.statement.specs.Replies.{IsReply}
use Rattle.program_words.specs.Asked.{query_of}
use Rattle.program_run.proofs.Works.{told}
use Rattle.program_run.proofs.working.work_of.Goals as goal

pub returns-in_ok-show-in-Show : goal.returns-in_ok-show-in-Show
returns-in_ok-show-in-Show g c =
    told g.G.Game (IsReply (query_of c.args.command.now) c.args.bytes.now) c.in_ok-show-in-Show.field-0 (rw c.in-Show.is c.in_ok-show-in-Show.ensures)

pub returns-in_ok-check-in-Check : goal.returns-in_ok-check-in-Check
returns-in_ok-check-in-Check g c =
    told g.G.Game (IsReply (query_of c.args.command.now) c.args.bytes.now) c.in_ok-check-in-Check.field-0 (rw c.in-Check.is c.in_ok-check-in-Check.ensures)
