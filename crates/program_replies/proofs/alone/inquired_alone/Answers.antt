use Rattle.statement.specs.Replies.{IsReply}
use Rattle.statement.specs.Queries.{asked_in}
use Rattle.program_words.specs.Asked.{query_about}
use Rattle.program_replies.proofs.ReadAndAsked.{read_and_asked, refused_so}
use Rattle.statement.specs.Solving.{solve_lines}
use Rattle.statement.specs.Deepening.{deepen_lines}
use Rattle.program_replies.proofs.Askings.{asked_reply, asked_search, asked_deepen}
use Rattle.program_searches.proofs.Facts.{told_after}
use Rattle.program_replies.proofs.alone.inquired_alone.Goals as goal

pub returns-in-Told : goal.returns-in-Told
returns-in-Told g c =
    let asked = read_and_asked g.G.Game c.args.inquiry.now c.args.width c.args.bytes.now c.in_ok-rules.field-0 c.in-Rules.rules
    c.instantiate_flat_alone-instantiated.result c.in_ok-reply.field-0 c.in_ok-rules.ensures c.in-Rules.is
    c.instantiate_flat_alone-instantiated.ensures.ground c.instantiate_flat_alone-instantiated.ensures.within c.instantiate_flat_alone-instantiated.ensures.fault c.in_ok-reply.ensures in
    asked_reply g.G.Game (IsReply (asked_in c.args.width (query_about c.args.inquiry.now)) c.args.bytes.now) c.in_ok-reply.field-0 c.in-Told.reply asked c.in-Told.is

pub returns-in-ToSearch : goal.returns-in-ToSearch
returns-in-ToSearch g c =
    let asked = read_and_asked g.G.Game c.args.inquiry.now c.args.width c.args.bytes.now c.in_ok-rules.field-0 c.in-Rules.rules
    c.instantiate_flat_alone-instantiated.result c.in_ok-reply.field-0 c.in_ok-rules.ensures c.in-Rules.is
    c.instantiate_flat_alone-instantiated.ensures.ground c.instantiate_flat_alone-instantiated.ensures.within c.instantiate_flat_alone-instantiated.ensures.fault c.in_ok-reply.ensures in
    told_after g.G.Game solve_lines (IsReply (asked_in c.args.width (query_about c.args.inquiry.now)) c.args.bytes.now) c.in-ToSearch.search c.told_alone.result
    (asked_search g.G.Game (IsReply (asked_in c.args.width (query_about c.args.inquiry.now)) c.args.bytes.now) c.in_ok-reply.field-0 c.in-ToSearch.search asked c.in-ToSearch.is)
    c.told_alone.ensures

pub returns-in_ok-new-in-ToDeepen : goal.returns-in_ok-new-in-ToDeepen
returns-in_ok-new-in-ToDeepen g c =
    let asked = read_and_asked g.G.Game c.args.inquiry.now c.args.width c.args.bytes.now c.in_ok-rules.field-0 c.in-Rules.rules
    c.instantiate_flat_alone-instantiated.result c.in_ok-reply.field-0 c.in_ok-rules.ensures c.in-Rules.is
    c.instantiate_flat_alone-instantiated.ensures.ground c.instantiate_flat_alone-instantiated.ensures.within c.instantiate_flat_alone-instantiated.ensures.fault c.in_ok-reply.ensures in
    told_after g.G.Game deepen_lines (IsReply (asked_in c.args.width (query_about c.args.inquiry.now)) c.args.bytes.now) c.in-ToDeepen.search c.told.result
    (asked_deepen g.G.Game (IsReply (asked_in c.args.width (query_about c.args.inquiry.now)) c.args.bytes.now) c.in_ok-reply.field-0 c.in-ToDeepen.search asked c.in-ToDeepen.is)
    (rw c.in_ok-new-in-ToDeepen.ensures.lines at c.told.ensures)

pub returns-in-Refused : goal.returns-in-Refused
returns-in-Refused g c =
    refused_so c.args.inquiry.now c.args.width c.args.bytes.now c.in_ok-rules.field-0 c.in-Refused.reply c.in_ok-rules.ensures c.in-Refused.is
