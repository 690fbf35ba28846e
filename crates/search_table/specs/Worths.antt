-- This crate's own: what `run` promises does not rest on it.
-- Worths by depth, and bounds of them.
use Rattle.std.specs.Prelude.{ℕ, ◌≡◌, ◌≤◌, ◌==◌, Bool, true, false}
use Rattle.statement.specs.declared.at_bound.AtBound.{AtBound}
use Rattle.statement.specs.declared.at_bound.AtBound.TheVariants.{Zero, Goal, Unfinished}
use Rattle.search_table.specs.declared.bounds.Bounds.{Bounds}

-- where a state at the bound is worth nothing, worths rise with the depth
abbrev pub is_rising : AtBound → Bool
is_rising Zero = true
is_rising Goal = false
is_rising (Unfinished worth) = worth.value == 0

-- no worth is above 100, and where worths rise none is less at a greater depth
pub record AreWorths (rising : Bool) (worth : ℕ → ℕ) : Type 0 where
  pub few : (d : ℕ) → worth d ≤ 100
  pub rise : rising ≡ true → (d e : ℕ) → d ≤ e → worth d ≤ worth e

-- a worth is within the bounds
abbrev pub IsWithin : ℕ → Bounds → Type 0
IsWithin worth b = (b.lo ≤ worth) × (worth ≤ b.hi)

-- the worth at a depth is within the bounds, and if the upper one lasts no worth at a greater depth is above it
pub record AreBoundsOf (worth : ℕ → ℕ) (depth : ℕ) (b : Bounds) : Type 0 where
  pub within : IsWithin (worth depth) b
  pub lasting : b.lasts ≡ true → (d : ℕ) → depth ≤ d → worth d ≤ b.hi
