use Rattle.std.proofs.Common.{ℕ}
use Rattle.std.specs.Prelude.{Ok}
use Rattle.statement.specs.Replies.{IsReply}
use Rattle.statement.specs.Solving.{solve_lines}
use Rattle.statement.specs.Queries.{asked_in}
use Rattle.program_words.specs.Asked.{query_about}
use Rattle.program_replies.proofs.Facts.{read_and_asked, refused_so, asked_reply, asked_search, asked_deepen}
use Rattle.program_searches.proofs.Facts.{told_after}
use Rattle.program_run.proofs.Works.{told, to_write}
use Rattle.program_run.proofs.working.work_about.Goals as goal

pub returns-in-Told : goal.returns-in-Told
returns-in-Told g c =
    let asked = read_and_asked g.G.Game c.args.inquiry.now c.args.width c.args.bytes.now c.in_ok-rules.field-0 c.in-Rules.rules
    c.instantiate_flat-instantiated.result c.in_ok-reply.field-0 c.in_ok-rules.ensures c.in-Rules.is
    c.instantiate_flat-instantiated.ensures.ground c.instantiate_flat-instantiated.ensures.within c.instantiate_flat-instantiated.ensures.fault c.in_ok-reply.ensures in
    told g.G.Game (IsReply (asked_in c.args.width (query_about c.args.inquiry.now)) c.args.bytes.now) c.in-Told.reply
    (asked_reply g.G.Game (IsReply (asked_in c.args.width (query_about c.args.inquiry.now)) c.args.bytes.now) c.in_ok-reply.field-0 c.in-Told.reply asked c.in-Told.is)

pub returns-in_ok-told_by_workers-in-ToSearch : goal.returns-in_ok-told_by_workers-in-ToSearch
returns-in_ok-told_by_workers-in-ToSearch g c =
    let asked = read_and_asked g.G.Game c.args.inquiry.now c.args.width c.args.bytes.now c.in_ok-rules.field-0 c.in-Rules.rules
    c.instantiate_flat-instantiated.result c.in_ok-reply.field-0 c.in_ok-rules.ensures c.in-Rules.is
    c.instantiate_flat-instantiated.ensures.ground c.instantiate_flat-instantiated.ensures.within c.instantiate_flat-instantiated.ensures.fault c.in_ok-reply.ensures in
    told g.G.Game (IsReply (asked_in c.args.width (query_about c.args.inquiry.now)) c.args.bytes.now) c.in_ok-told_by_workers-in-ToSearch.field-0
    (told_after {E = ℕ} g.G.Game solve_lines (IsReply (asked_in c.args.width (query_about c.args.inquiry.now)) c.args.bytes.now) c.in-ToSearch.search (Ok c.in_ok-told_by_workers-in-ToSearch.field-0)
    (asked_search g.G.Game (IsReply (asked_in c.args.width (query_about c.args.inquiry.now)) c.args.bytes.now) c.in_ok-reply.field-0 c.in-ToSearch.search asked c.in-ToSearch.is)
    c.in_ok-told_by_workers-in-ToSearch.ensures)

pub returns-in_ok-new-in-ToDeepen : goal.returns-in_ok-new-in-ToDeepen
returns-in_ok-new-in-ToDeepen g c =
    let asked = read_and_asked g.G.Game c.args.inquiry.now c.args.width c.args.bytes.now c.in_ok-rules.field-0 c.in-Rules.rules
    c.instantiate_flat-instantiated.result c.in_ok-reply.field-0 c.in_ok-rules.ensures c.in-Rules.is
    c.instantiate_flat-instantiated.ensures.ground c.instantiate_flat-instantiated.ensures.within c.instantiate_flat-instantiated.ensures.fault c.in_ok-reply.ensures in
    to_write g.G.Game (IsReply (asked_in c.args.width (query_about c.args.inquiry.now)) c.args.bytes.now) c.in-ToDeepen.search c.in_ok-new-in-ToDeepen.field-0
    (asked_deepen g.G.Game (IsReply (asked_in c.args.width (query_about c.args.inquiry.now)) c.args.bytes.now) c.in_ok-reply.field-0 c.in-ToDeepen.search asked c.in-ToDeepen.is)
    c.in_ok-new-in-ToDeepen.ensures.ready c.in_ok-new-in-ToDeepen.ensures.lines

pub returns-in-Refused : goal.returns-in-Refused
returns-in-Refused g c =
    told g.G.Game (IsReply (asked_in c.args.width (query_about c.args.inquiry.now)) c.args.bytes.now) c.in-Refused.reply
    (refused_so c.args.inquiry.now c.args.width c.args.bytes.now c.in_ok-rules.field-0 c.in-Refused.reply c.in_ok-rules.ensures c.in-Refused.is)
