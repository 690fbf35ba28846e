use Rattle.std.proofs.Common.{◌≡◌, ◌++◌, ◌≤◌, ◌-◌, length, take}
use Rattle.std.specs.List.{flat_map}
use Rattle.maximin.specs.Room.{IsRoomFor, room_depth}
use Rattle.program_searches.specs.Histories.{named}
use Rattle.statement.specs.MoveValues.{worth_line}
use Rattle.program_searches.proofs.worths.add_worths.Given as goal

-- the lines of the moves before this place stand
abbrev pub invariant-loop-own : goal.invariant-loop-own
invariant-loop-own g l =
    let game = g.G.Game in
    let state = game.state l.game l.here in
    let legal = (game.rules l.game).legal state l.asked.role in
    let named_game = named (game.rules l.game) (game.role_name l.game) (game.move_name l.game) in
    record {
      room : IsRoomFor game l.game l.asked.role l.asked.depth l.room;
      same : room_depth l.room ≡ room_depth l.fn.room;
      within : l.place ≤ length legal;
      lines : l.output.items ≡ l.fn.output.items ++ flat_map (worth_line named_game l.asked.role (l.asked.depth - 1) l.asked.at state)
          (take l.place legal);
    }

abbrev pub decreases-loop-own : goal.decreases-loop-own
decreases-loop-own g l = length ((g.G.Game.rules l.game).legal (g.G.Game.state l.game l.here) l.asked.role) - l.place
