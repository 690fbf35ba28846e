use Rattle.std.specs.Prelude.{map, pos, ◌≤ℤ◌}
use Rattle.std.specs.Int.{int_max}
use Rattle.statement.specs.Value.{value, greatest}
use Rattle.maximin.proofs.told.greatest_told.Given as goal

-- lower is no less than the bound, and no more than the greatest value where that is more than the bound
abbrev pub invariant-loop-place : goal.invariant-loop-place
invariant-loop-place g l =
    let worth = value (g.G.Game.rules l.game) l.asked.role l.asked.depth l.asked.at in
    record {
      at_least : l.a ≤ℤ l.lower;
      at_most : l.lower ≤ℤ int_max (pos (greatest (map worth (g.G.Game.states l.game l.many)))) l.a;
    }
