-- This crate's own: what `run` promises does not rest on it.
use Rattle.std.specs.Prelude.{pos, negsuc, ◌≤ℤ◌}
use Rattle.share.specs.declared.bounds.Bounds.{Bounds}

-- each of the two is from -2 to 101
pub record AreBounds (b : Bounds) : Type 0 where
  pub low : (negsuc 1 ≤ℤ b.low) × (b.low ≤ℤ pos 101)
  pub high : (negsuc 1 ≤ℤ b.high) × (b.high ≤ℤ pos 101)
