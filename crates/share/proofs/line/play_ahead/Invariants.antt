use Rattle.std.proofs.Common.{◌≡◌, ◌≤◌, ◌<◌}
use Rattle.std.specs.Prelude.{pos}
use Rattle.maximin.specs.Room.{IsRoomOf, room_depth}
use Rattle.statement.specs.Value.{value, choice_of}
use Rattle.share.proofs.line.play_ahead.Given as goal

-- the state at which play stands is worth as much as the first
abbrev pub invariant-loop-chosen : goal.invariant-loop-chosen
invariant-loop-chosen g l =
    let rules = g.G.Game.rules l.game in
    let state = g.G.Game.state l.game in
    record {
      here : g.G.Game.fits l.game l.here;
      next : g.G.Game.fits l.game l.next;
      joint : rules.roles ≤ l.joint.capacity;
      room : IsRoomOf g.G.Game l.game l.room;
      deep : l.asked.depth ≤ room_depth l.room;
      role : l.asked.role < rules.roles;
      worth_is : l.worth ≡ pos (value rules l.asked.role l.asked.depth l.asked.at (state l.here));
      choice_is : l.chosen ≡ choice_of rules l.asked.role l.asked.depth l.asked.at (state l.here);
    }

abbrev pub decreases-loop-chosen : goal.decreases-loop-chosen
decreases-loop-chosen g l = l.asked.depth
