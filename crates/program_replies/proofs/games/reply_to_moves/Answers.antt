use Rattle.statement.specs.Moving.{IsMovesReply}
use Rattle.program_searches.specs.Histories.{named}
use Rattle.program_replies.proofs.Describing.{tells_game}
use Rattle.program_replies.proofs.games.reply_to_moves.Goals as goal

pub returns : goal.returns
returns g c =
    let played = c.in_ok-game.game in
    tells_game c.args.ground (named (g.G.Game.rules played) (g.G.Game.role_name played) (g.G.Game.move_name played))
    (λ told. IsMovesReply told c.args.after.now) c.moves_reply.result c.in_ok-game.ensures.plays c.moves_reply.ensures
