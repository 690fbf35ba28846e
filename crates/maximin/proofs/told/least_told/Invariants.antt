use Rattle.std.proofs.Common.{ℕ, true, ◌≡◌, ◌≤◌}
use Rattle.std.specs.Prelude.{map, pos, ◌≤ℤ◌}
use Rattle.std.specs.Int.{int_min}
use Rattle.statement.specs.Value.{value, least}
use Rattle.maximin.proofs.told.least_told.Given as goal

-- upper is no more than the bound, and no less than the least value where that is less than the bound, at each greater depth too if it lasts
abbrev pub invariant-loop-place : goal.invariant-loop-place
invariant-loop-place g l =
    let all = λ (d : ℕ). least (map (value (g.G.Game.rules l.game) l.asked.role d l.asked.at) (g.G.Game.states l.game l.many)) in
    record {
      at_most : l.upper ≤ℤ l.b;
      at_least : int_min (pos (all l.asked.depth)) l.b ≤ℤ l.upper;
      later : l.lasts ≡ true → (d : ℕ) → l.asked.depth ≤ d → int_min (pos (all d)) l.b ≤ℤ l.upper;
    }
