use Rattle.std.proofs.Common.{◌≡◌, ◌∙◌, rules as facts}
use Rattle.std.specs.Prelude.{Ok}
use Rattle.statement.specs.Holding.{state_lines}
use Rattle.program_searches.specs.Histories.{named}
use Rattle.program_replies.proofs.Standings.{fault_told}
use Rattle.program_replies.proofs.standing.state_reply.Goals as goal

pub returns-in_ok-standing_lines-in-Ok : goal.returns-in_ok-standing_lines-in-Ok
returns-in_ok-standing_lines-in-Ok g c = λ rules is.
    let game = named (g.G.Game.rules c.args.game.now) (g.G.Game.role_name c.args.game.now) (g.G.Game.move_name c.args.game.now) in
    let state = g.G.Game.state c.args.game.now c.in-Ok.here in
    let same : c.answered.result.output.items ≡ c.in_ok-standing_lines-in-Ok.field-0.items = search facts in
    let line : c.answered.result.output.items ≡ state_lines rules game state = same ∙ c.in_ok-standing_lines-in-Ok.ensures rules is in
    let status = c.answered.ensures.status in
    (Ok state, c.in-Ok.ensures.played, cc (line, status))

pub returns-in-Err : goal.returns-in-Err
returns-in-Err g c =
    let game = named (g.G.Game.rules c.args.game.now) (g.G.Game.role_name c.args.game.now) (g.G.Game.move_name c.args.game.now) in
    fault_told game c.args.after.now (g.G.GroundGame.source c.args.game.now) c.in-Err.fault c.refused_history.result
    (c.in-Err.ensures.refused (search facts)) c.refused_history.ensures.line c.refused_history.ensures.status
