-- This crate's own: what `run` promises does not rest on it.
-- Values that no further turn changes.
use Rattle.std.specs.Prelude.{ℕ, ◌≡◌, ◌≤◌}
use Rattle.statement.specs.declared.at_bound.AtBound.TheVariants.{Unfinished}
use Rattle.statement.specs.declared.at_bound.Worth.{Worth}
use Rattle.statement.specs.Rules.{Rules, State}
use Rattle.statement.specs.Value.{value}

-- each goal is one
abbrev pub AreGoals : Rules → Type 0
AreGoals g = (s : State) (r : ℕ) → g.goal s r ≤ 100

-- n is the value of a state, both where unfinished play is worth 0 and where it is worth 100
pub record IsSettled (g : Rules) (role depth : ℕ) (s : State) (n : ℕ) : Type 0 where
  pub none : Worth
  pub all : Worth
  pub of_none : none.value ≡ 0
  pub of_all : all.value ≡ 100
  pub with_none : value g role depth (Unfinished none) s ≡ n
  pub with_all : value g role depth (Unfinished all) s ≡ n
