use Rattle.statement.specs.ForRole.{IsRoleReply}
use Rattle.program_searches.specs.Searching.{IsStartFor, named_by}
use Rattle.program_searches.proofs.Searches.{start_is, reply_is}
use Rattle.program_searches.proofs.best_play.search_for.Goals as goal

pub returns-in-Ok : goal.returns-in-Ok
returns-in-Ok g c = λ lines.
    let game = named_by g.G.Game c.args.game in
    let sought = c.args.sought.now in
    let is = IsRoleReply game sought.role.now (λ r. lines game r sought.depth sought.at_bound) sought.after.now in
    let s : IsStartFor g.G.Game c.args.game lines is c.in-Ok.start =
    start_is g.G.Game c.args.game lines is c.in_ok-start.field-0 (c.in_ok-start.ensures lines) c.in-Ok.start c.in-Ok.is in
    record { fits = s.fits; role = s.role; reply = s.reply }

pub returns-in-Err : goal.returns-in-Err
returns-in-Err g c = λ lines.
    let game = named_by g.G.Game c.args.game in
    let sought = c.args.sought.now in
    let is = IsRoleReply game sought.role.now (λ r. lines game r sought.depth sought.at_bound) sought.after.now in
    reply_is g.G.Game c.args.game lines is c.in_ok-start.field-0 (c.in_ok-start.ensures lines) c.in-Err.reply c.in-Err.is
