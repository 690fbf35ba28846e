-- What is asked of the rules, and by which limits they are instantiated. How many workers search is no part of it.
use Rattle.std.specs.Prelude.{ℕ, List}
use Rattle.statement.specs.declared.at_bound.AtBound.{AtBound}
use Rattle.statement.specs.declared.width.Width.{Width}
use Rattle.statement.specs.declared.width.Width.TheVariants.{Plain, Wide}
use Rattle.statement.specs.declared.window.Window.{Window}

-- the commands: `moves` and `state` have the text of a history; `solve`, also within a window and by deepening, and `values`, also with
-- lines, the text of a role, how many turns are looked ahead, what a state is worth behind them, and the text of a history; and what is asked
-- of rules that may have more inputs, as they are written out of the whole language
pub data Query : Type 0 where
  show : Query
  check : Query
  net : Query
  moves : List ℕ → Query
  state : List ℕ → Query
  solve : List ℕ → ℕ → AtBound → List ℕ → Query
  solve_within : List ℕ → ℕ → AtBound → Window → List ℕ → Query
  values : List ℕ → ℕ → AtBound → List ℕ → Query
  values_with_lines : List ℕ → ℕ → AtBound → List ℕ → Query
  deepen : List ℕ → ℕ → AtBound → List ℕ → Query
  widely : Query → Query

abbrev pub asked_in : Width → Query → Query
asked_in Plain query = query
asked_in Wide query = widely query
