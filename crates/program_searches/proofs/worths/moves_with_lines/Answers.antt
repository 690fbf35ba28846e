use Rattle.std.proofs.Common.{ℕ, List, ◌-◌, ◌++◌, ◌∙◌, ap, sym}
use Rattle.std.specs.List.{flat_map}
use Rattle.statement.specs.MoveLines.{move_lines}
use Rattle.program_searches.specs.Histories.{named}
use Rattle.program_searches.proofs.MoveWorths.{lines_open, lines_closed}
use Rattle.program_searches.proofs.worths.moves_with_lines.Goals as goal

pub returns-then-is_closed-clause-lines : goal.returns-then-is_closed-clause-lines
returns-then-is_closed-clause-lines g c =
    let game = named (g.G.Game.rules c.args.game.now) (g.G.Game.role_name c.args.game.now) (g.G.Game.move_name c.args.game.now) in
    rw (lines_closed game c.args.asked.role c.args.asked.depth c.args.asked.at (g.G.Game.state c.args.game.now c.args.here.now)
    (c.is_closed.ensures.yes c.if-is_closed.true)) c.best_lines.ensures.lines

pub returns-clause-lines : goal.returns-clause-lines
returns-clause-lines g c =
    let game = named (g.G.Game.rules c.args.game.now) (g.G.Game.role_name c.args.game.now) (g.G.Game.move_name c.args.game.now) in
    let state = g.G.Game.state c.args.game.now c.args.here.now in
    let asked = c.args.asked in
    c.in_ok-add_each.ensures.lines
    ∙ ap (λ (xs : List ℕ). xs ++ flat_map (move_lines game asked.role (asked.depth - 1) asked.at state) (game.rules.legal state asked.role))
    c.new-output.ensures.items
    ∙ sym (lines_open game asked.role asked.depth asked.at state (c.is_closed.ensures.no c.if-is_closed.false))
