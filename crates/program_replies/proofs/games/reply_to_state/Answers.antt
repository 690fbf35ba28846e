use Rattle.statement.specs.Holding.{IsStateReply}
use Rattle.program_searches.specs.Histories.{named}
use Rattle.program_replies.proofs.Describing.{tells_rules}
use Rattle.program_replies.proofs.games.reply_to_state.Goals as goal

pub returns : goal.returns
returns g c =
    let played = c.in_ok-game.game in
    tells_rules c.args.ground _ (named (g.G.Game.rules played) (g.G.Game.role_name played) (g.G.Game.move_name played))
    (λ rules told. IsStateReply rules told c.args.after.now) c.state_reply.result c.in_ok-game.ensures.plays c.in_ok-game.ensures.keeps
    c.state_reply.ensures
