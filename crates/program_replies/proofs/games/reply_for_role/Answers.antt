use Rattle.statement.specs.ForRole.{IsRoleReply}
use Rattle.program_searches.specs.Histories.{named}
use Rattle.program_searches.specs.Windows.{wanted_lines}
use Rattle.program_replies.proofs.Describing.{tells_game}
use Rattle.program_replies.proofs.games.reply_for_role.Goals as goal

pub returns : goal.returns
returns g c =
    let played = c.in_ok-game.game in
    let sought = c.args.sought.now in
    tells_game c.args.ground (named (g.G.Game.rules played) (g.G.Game.role_name played) (g.G.Game.move_name played))
    (λ told. IsRoleReply told sought.role.now (λ r. wanted_lines c.args.wanted told r sought.depth sought.at_bound) sought.after.now)
    c.role_reply.result c.in_ok-game.ensures.plays c.role_reply.ensures.reply
