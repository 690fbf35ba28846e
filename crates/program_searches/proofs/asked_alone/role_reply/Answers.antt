use Rattle.statement.specs.ForRole.{IsRoleReply}
use Rattle.program_searches.specs.Searching.{named_by}
use Rattle.program_searches.specs.Windows.{wanted_lines}
use Rattle.program_searches.proofs.Searches.{start_is, reply_is, told_from}
use Rattle.program_searches.proofs.asked_alone.role_reply.Goals as goal

pub reply_from-requires-clause-fits : goal.reply_from-requires-clause-fits
reply_from-requires-clause-fits g c κs within =
    let game = named_by g.G.Game c.args.game.now in
    let sought = c.args.sought.now in
    let lines = wanted_lines c.args.wanted in
    let is = IsRoleReply game sought.role.now (λ r. lines game r sought.depth sought.at_bound) sought.after.now in
    (start_is g.G.Game c.args.game.now lines is c.in_ok-start.field-0 (c.in_ok-start.ensures lines) c.in-Ok.start c.in-Ok.is).fits

pub reply_from-requires-clause-role : goal.reply_from-requires-clause-role
reply_from-requires-clause-role g c κs within =
    let game = named_by g.G.Game c.args.game.now in
    let sought = c.args.sought.now in
    let lines = wanted_lines c.args.wanted in
    let is = IsRoleReply game sought.role.now (λ r. lines game r sought.depth sought.at_bound) sought.after.now in
    (start_is g.G.Game c.args.game.now lines is c.in_ok-start.field-0 (c.in_ok-start.ensures lines) c.in-Ok.start c.in-Ok.is).role

pub returns-in-Ok-clause-reply : goal.returns-in-Ok-clause-reply
returns-in-Ok-clause-reply g c =
    let game = named_by g.G.Game c.args.game.now in
    let sought = c.args.sought.now in
    let lines = wanted_lines c.args.wanted in
    let is = IsRoleReply game sought.role.now (λ r. lines game r sought.depth sought.at_bound) sought.after.now in
    told_from g.G.Game c.args.game.now lines is c.in-Ok.start c.reply_from.result
    (start_is g.G.Game c.args.game.now lines is c.in_ok-start.field-0 (c.in_ok-start.ensures lines) c.in-Ok.start c.in-Ok.is) c.reply_from.ensures.reply

pub returns-in-Err-clause-reply : goal.returns-in-Err-clause-reply
returns-in-Err-clause-reply g c =
    let game = named_by g.G.Game c.args.game.now in
    let sought = c.args.sought.now in
    let lines = wanted_lines c.args.wanted in
    let is = IsRoleReply game sought.role.now (λ r. lines game r sought.depth sought.at_bound) sought.after.now in
    reply_is g.G.Game c.args.game.now lines is c.in_ok-start.field-0 (c.in_ok-start.ensures lines) c.in-Err.reply c.in-Err.is
