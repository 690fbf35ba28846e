use Rattle.std.proofs.Common.{◌≡◌, ◌+◌, ◌-◌, ◌≤◌}
use Rattle.std.specs.Prelude.{pos}
use Rattle.program_searches.proofs.Held.{Written}
use Rattle.maximin.specs.Room.{room_depth}
use Rattle.statement.specs.Value.{value, choice_of, line_of}
use Rattle.program_searches.specs.Histories.{named}
use Rattle.program_searches.specs.Play.{IsPlayOf}
use Rattle.statement.specs.Solving.{turn_lines}
use Rattle.program_searches.proofs.writing.write_turns.Given as goal

-- the lines of the turns that are left are still to be written
abbrev pub invariant-loop-chosen : goal.invariant-loop-chosen
invariant-loop-chosen g l =
    let rules = g.G.Game.rules l.game in
    let state = g.G.Game.state l.game in
    let game = named rules (g.G.Game.role_name l.game) (g.G.Game.move_name l.game) in
    record {
      play : IsPlayOf g.G.Game l.game l.play;
      same : room_depth l.play.room ≡ room_depth l.fn.play.room;
      deep : l.left ≤ room_depth l.play.room;
      within : l.left ≤ l.asked.depth;
      worth : l.found.value ≡ pos (value rules l.asked.role l.left l.asked.at (state l.play.here));
      chosen : l.chosen ≡ choice_of rules l.asked.role l.left l.asked.at (state l.play.here);
      lines : Written (g.W.Write.contents l.fn.out) (g.W.Write.contents l.out)
          (turn_lines game l.number (line_of rules l.asked.role l.asked.depth l.asked.at (state l.fn.play.here)))
          (turn_lines game (l.number + (l.asked.depth - l.left)) (line_of rules l.asked.role l.left l.asked.at (state l.play.here)));
    }

abbrev pub decreases-loop-chosen : goal.decreases-loop-chosen
decreases-loop-chosen g l = l.left
