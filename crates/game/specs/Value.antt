-- This crate's own: what `run` promises does not rest on it.
-- What a role can be sure of, whatever the others do (minimax with several opponents), and the play that makes sure of it.
use Rattle.std.specs.Prelude.{ℕ, ℤ, pos, ◌≤ℤ◌}
use Rattle.std.specs.Int.{int_min, int_max}

-- r answers v in the window (a, b): it is at least the smaller of v and b, and at most the greater of v and a
pub record Answers (v : ℕ) (a b r : ℤ) : Type 0 where
  pub at_least : int_min (pos v) b ≤ℤ r
  pub at_most : r ≤ℤ int_max (pos v) a
