use Rattle.std.proofs.Common.{w16, rules as facts}
use Rattle.std.proofs.lemmas.Int.{to_z-of_z}
use mir.Val.{SFits}
use Rattle.statement.specs.Value.{worst}
use Rattle.maximin.proofs.Reaching.{reach_told}
use Rattle.maximin.proofs.bounded.reaches.Goals as goal

pub returns-clause-reaches : goal.returns-clause-reaches
returns-clause-reaches g c =
    let rules = g.G.Game.rules c.args.game.now in
    let state = g.G.Game.state c.args.game.now c.args.from.now in
    let worth = worst rules c.args.asked.role c.args.asked.depth c.args.asked.at state c.args.own in
    let window = c.window_below-window.result in
    let fits_high : SFits w16 c.window_below-window.result.high = search facts in
    let fits : SFits w16 c.worst_at-worth.result = search facts in
    rw (to_z-of_z w16 c.window_below-window.result.high fits_high, to_z-of_z w16 c.worst_at-worth.result fits)
    (reach_told worth c.args.bound window.low window.high c.worst_at-worth.result c.window_below-window.ensures.window.order
    c.window_below-window.ensures.high c.worst_at-worth.ensures.answers)
