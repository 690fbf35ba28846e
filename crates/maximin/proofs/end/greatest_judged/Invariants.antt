use Rattle.std.proofs.Common.{ℕ, ◌<◌, [], get_or}
use Rattle.std.specs.Prelude.{map, pos, ◌≤ℤ◌}
use Rattle.std.specs.Int.{int_min, int_max}
use Rattle.statement.specs.Value.{value, greatest}
use Rattle.maximin.proofs.end.greatest_judged.Given as goal

-- lower is a lower bound of the answer that every state so far keeps to, and it is no more than the greatest value or a
abbrev pub invariant-loop-place : goal.invariant-loop-place
invariant-loop-place g l =
    let worth = value (g.G.Game.rules l.game) l.asked.role l.asked.depth l.asked.at in
    let states = g.G.Game.judged l.game l.wide in
    record {
      above : l.window.low ≤ℤ l.lower;
      at_most : l.lower ≤ℤ int_max (pos (greatest (map worth states))) l.window.low;
      seen : (k : ℕ) → k < l.place → int_min (pos (worth (get_or states k []))) l.window.high ≤ℤ l.lower;
    }
