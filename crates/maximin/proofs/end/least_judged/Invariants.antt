use Rattle.std.proofs.Common.{ℕ, ◌<◌, [], get_or}
use Rattle.std.specs.Prelude.{map, pos, ◌≤ℤ◌}
use Rattle.std.specs.Int.{int_min, int_max}
use Rattle.statement.specs.Value.{value, least}
use Rattle.maximin.proofs.end.least_judged.Given as goal

-- upper is an upper bound of the answer, and no state so far is worth less, unless it is a or less
abbrev pub invariant-loop-place : goal.invariant-loop-place
invariant-loop-place g l =
    let worth = value (g.G.Game.rules l.game) l.asked.role l.asked.depth l.asked.at in
    let states = g.G.Game.judged l.game l.wide in
    record {
      below : l.upper ≤ℤ l.window.high;
      at_least : int_min (pos (least (map worth states))) l.window.high ≤ℤ l.upper;
      seen : (k : ℕ) → k < l.place → l.upper ≤ℤ int_max (pos (worth (get_or states k []))) l.window.low;
    }
