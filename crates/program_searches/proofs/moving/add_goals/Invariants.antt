use Rattle.std.proofs.Common.{◌≡◌, ◌++◌}
use Rattle.std.specs.List.{flat_map, range_with_len}
use Rattle.program_searches.specs.Histories.{named}
use Rattle.statement.specs.Moving.{goal_line}
use Rattle.program_searches.proofs.moving.add_goals.Given as goal

-- the lines of the roles before this one stand
abbrev pub invariant-loop-role : goal.invariant-loop-role
invariant-loop-role g l =
    let game = g.G.Game in
    l.output.items ≡ l.fn.output.items ++ flat_map (goal_line (named (game.rules l.game) (game.role_name l.game) (game.move_name l.game)) (game.state l.game l.p))
    (range_with_len 0 l.role)
