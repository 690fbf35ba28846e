-- This crate's own: what `run` promises does not rest on it.
use Rattle.std.specs.Prelude.{◌≡◌, ℕ, ℤ, pos, slice_get}
use Rattle.statement.specs.declared.at_bound.AtBound.{AtBound}
use Rattle.statement.specs.Rules.{Rules, State}
use Rattle.statement.specs.Value.{value, choice_of}

-- what a state is worth to a role, and the place of the first of its moves that attains it
pub record IsFound (g : Rules) (role depth : ℕ) (at : AtBound) (s : State) (worth : ℤ) (place : ℕ) : Type 0 where
  pub value : worth ≡ pos (value g role depth at s)
  pub first : choice_of g role depth at s ≡ slice_get (g.legal s role) place
