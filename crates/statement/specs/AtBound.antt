-- What a state is worth where no turn is left to look ahead.
use Rattle.std.specs.Prelude.{ℕ, List, Option, Some, None, codes}
use Rattle.statement.specs.declared.at_bound.AtBound.{AtBound}
use Rattle.statement.specs.declared.at_bound.AtBound.TheVariants.{Zero, Goal, Unfinished}

-- the word for each that has one
abbrev pub bound_word : AtBound → Option (List ℕ)
bound_word Zero = Some (codes "zero")
bound_word Goal = Some (codes "goal")
bound_word (Unfinished worth) = None

-- what a state with this goal value is worth there
abbrev pub bound_worth : AtBound → ℕ → ℕ
bound_worth Zero goal = 0
bound_worth Goal goal = goal
bound_worth (Unfinished worth) goal = worth.value
