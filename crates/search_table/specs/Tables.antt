-- This crate's own: what `run` promises does not rest on it.
-- What a table of positions is of.
use Rattle.std.specs.Prelude.{ℕ, ◌≡◌, ◌≤◌, List, [], ◌∷◌, vec_capacity}
use Rattle.statement.specs.declared.at_bound.AtBound.{AtBound}
use Rattle.statement.specs.Rules.{Rules, State}
use Rattle.statement.specs.Value.{value}
use Rattle.search_table.specs.declared.position_table.PositionTable.{PositionTable}
use Rattle.search_table.specs.Rows.{RowsHold}

-- what the state of a key is worth to a role within so many turns
abbrev pub worth_of : Rules → (List ℕ → State) → ℕ → AtBound → List ℕ → ℕ → ℕ
worth_of g keyed role at key depth = value g role depth at (keyed key)

-- The table is for a role's values of a game in which keys stand for states, and all that it keeps of them is so.
pub record IsTableOf (g : Rules) (keyed : List ℕ → State) (role : ℕ) (at : AtBound) (t : PositionTable) : Type 0 where
  pub of_role : t.role ≡ role
  pub of_bound : t.at ≡ at
  pub goals : (s : State) → g.goal s role ≤ 100
  pub rows : RowsHold (worth_of g keyed role at) t.words.items t.stride t.entries

-- the capacity of what a table keeps in memory
abbrev pub table_capacity : PositionTable → List ℕ
table_capacity t = vec_capacity t.words ∷ []
