use Rattle.statement.specs.NamedRules.{NamedRules}
use Rattle.statement.specs.Answers.{Reply}
use Rattle.statement.specs.Solving.{solve_lines}
use Rattle.statement.specs.ForRole.{IsRoleReply}
use Rattle.program_searches.specs.Searching.{named_by}
use Rattle.program_searches.proofs.Facts.{still_search, still_reply}
use Rattle.program_replies.proofs.Describing.{tells}
use Rattle.program_replies.proofs.games.ask_solve.Goals as goal

pub returns-in-Ok : goal.returns-in-Ok
returns-in-Ok g c =
    let sought = c.args.sought.now in
    let told = λ (game : NamedRules) (reply : Reply). IsRoleReply game sought.role.now (λ r. solve_lines game r sought.depth sought.at_bound) sought.after.now reply in
    let played = named_by g.G.Game c.in_ok-game.game in
    still_search g.G.Game (told played) _ (tells c.args.ground played told c.in_ok-game.ensures.plays) solve_lines c.in_ok-search.field-0 c.in-Ok.search
    (c.in_ok-search.ensures solve_lines) c.in-Ok.is

pub returns-in-Err : goal.returns-in-Err
returns-in-Err g c =
    let sought = c.args.sought.now in
    let told = λ (game : NamedRules) (reply : Reply). IsRoleReply game sought.role.now (λ r. solve_lines game r sought.depth sought.at_bound) sought.after.now reply in
    let played = named_by g.G.Game c.in_ok-game.game in
    still_reply g.G.Game (told played) _ (tells c.args.ground played told c.in_ok-game.ensures.plays) solve_lines c.in_ok-search.field-0 c.in-Err.reply
    (c.in_ok-search.ensures solve_lines) c.in-Err.is
