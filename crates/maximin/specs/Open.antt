-- This crate's own: what `run` promises does not rest on it.
-- States in which play goes on.
use Rattle.std.specs.Prelude.{◌≡◌, ◌≢◌, ℕ, false}
use Rattle.statement.specs.Rules.{Rules, State, is_stuck}

-- a state that is not ended, nor stuck, with a turn to come
pub record IsOpen (g : Rules) (depth : ℕ) (s : State) : Type 0 where
  pub turn : depth ≢ 0
  pub going : g.ended s ≡ false
  pub free : is_stuck g s ≡ false
