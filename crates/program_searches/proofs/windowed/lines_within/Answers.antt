use Rattle.std.proofs.Common.{◌∙◌, w16, rules as facts}
use Rattle.std.proofs.lemmas.Int.{to_z-of_z}
use mir.Val.{SFits}
use Rattle.program_searches.specs.Histories.{named}
use Rattle.program_searches.proofs.Placing.{told_below, told_between, worth_between}
use Rattle.program_searches.proofs.windowed.lines_within.Goals as goal

pub returns-in-Below-clause-lines : goal.returns-in-Below-clause-lines
returns-in-Below-clause-lines g c =
    let game = named (g.G.Game.rules c.args.game.now) (g.G.Game.role_name c.args.game.now) (g.G.Game.move_name c.args.game.now) in
    let state = g.G.Game.state c.args.game.now c.args.here.now in
    let asked = c.args.asked in
    rw (told_below game c.args.window asked.role asked.depth asked.at state c.place_value.result c.place_value.ensures.placed c.in-Below.is)
    (rw c.saturating_sub.ensures at c.below_lines.ensures)

pub lines_of_value-requires-clause-worth : goal.lines_of_value-requires-clause-worth
lines_of_value-requires-clause-worth g c κs within =
    let game = named (g.G.Game.rules c.args.game.now) (g.G.Game.role_name c.args.game.now) (g.G.Game.move_name c.args.game.now) in
    let state = g.G.Game.state c.args.game.now c.args.here.now in
    let asked = c.args.asked in
    let fits : SFits w16 c.in-Between.worth = search facts in
    to_z-of_z w16 c.in-Between.worth fits
    ∙ worth_between game c.args.window asked.role asked.depth asked.at state c.place_value.result c.place_value.ensures.placed c.in-Between.worth
    c.in-Between.is

pub returns-in-Between-clause-lines : goal.returns-in-Between-clause-lines
returns-in-Between-clause-lines g c =
    let game = named (g.G.Game.rules c.args.game.now) (g.G.Game.role_name c.args.game.now) (g.G.Game.move_name c.args.game.now) in
    let state = g.G.Game.state c.args.game.now c.args.here.now in
    let asked = c.args.asked in
    rw (told_between game c.args.window asked.role asked.depth asked.at state c.place_value.result c.place_value.ensures.placed c.in-Between.worth
    c.in-Between.is) c.lines_of_value.ensures.lines
