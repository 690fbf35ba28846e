use Rattle.std.proofs.Common.{◌≡◌, ◌≢◌, ◌+◌, ◌-◌, ◌≤◌}
use Rattle.maximin.specs.Room.{room_depth}
use Rattle.program_searches.proofs.Held.{Written}
use Rattle.statement.specs.Deepening.{deepen_lines}
use Rattle.program_searches.specs.Histories.{named}
use Rattle.program_searches.specs.Play.{IsPlayFor}
use Rattle.program_searches.specs.Settling.{IsSettlingFor}
use Rattle.program_searches.proofs.Deepened.{lines_from}
use Rattle.program_searches.proofs.deepening.write_depths.Given as goal

-- no depth to this one is settled, and their lines are written and flushed
abbrev pub invariant-loop-depth : goal.invariant-loop-depth
invariant-loop-depth g l =
    let rules = g.G.Game.rules l.game in
    let state = g.G.Game.state l.game l.root in
    let game = named rules (g.G.Game.role_name l.game) (g.G.Game.move_name l.game) in
    record {
      within : l.depth ≤ l.asked.depth;
      same : room_depth l.play.room ≡ room_depth l.fn.play.room;
      ahead : IsPlayFor g.G.Game l.game l.asked.role l.asked.depth l.play;
      further : IsSettlingFor g.G.Game l.game l.asked.role l.asked.depth l.asked.at l.settling;
      lines : Written (g.W.Write.contents l.fn.out) (g.W.Write.contents l.out) (deepen_lines game l.asked.role l.asked.depth l.asked.at state)
          (lines_from game l.asked.role l.asked.at state (l.depth + 1) (l.asked.depth - l.depth));
      flushed : l.depth ≢ 0 → g.W.Flushing.is_flushed l.out;
    }

abbrev pub decreases-loop-depth : goal.decreases-loop-depth
decreases-loop-depth g l = l.asked.depth - l.depth
