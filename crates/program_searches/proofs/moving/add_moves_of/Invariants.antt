use Rattle.std.proofs.Common.{◌≡◌, ◌++◌, ◌≤◌, ◌-◌, length, take}
use Rattle.std.specs.List.{flat_map}
use Rattle.program_searches.specs.Histories.{named}
use Rattle.statement.specs.Moving.{legal_line}
use Rattle.program_searches.proofs.moving.add_moves_of.Given as goal

-- the lines of the moves before this place stand
abbrev pub invariant-loop-number : goal.invariant-loop-number
invariant-loop-number g l =
    let game = g.G.Game in
    let legal = (game.rules l.game).legal (game.state l.game l.p) l.role in
    record {
      within : l.place ≤ length legal;
      lines : l.output.items ≡ l.fn.output.items ++ flat_map (legal_line (named (game.rules l.game) (game.role_name l.game) (game.move_name l.game)) l.role)
          (take l.place legal);
    }

abbrev pub decreases-loop-number : goal.decreases-loop-number
decreases-loop-number g l = length ((g.G.Game.rules l.game).legal (g.G.Game.state l.game l.p) l.role) - l.place
