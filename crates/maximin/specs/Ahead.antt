-- This crate's own: what `run` promises does not rest on it.
-- What is known of the states of a run before they are searched.
use Rattle.std.specs.Prelude.{◌≡◌, ℕ, ◌<◌, ◌≤◌, List, [], length, slice_index_or}
use Rattle.statement.specs.declared.at_bound.AtBound.TheVariants.{Zero}
use Rattle.statement.specs.Rules.{Rules, State}
use Rattle.game.specs.declared.question.Question.{Question}
use Rattle.maximin.specs.declared.ahead.Ahead.{Ahead}
use Rattle.search_table.specs.declared.bounds.Bounds.{Bounds}
use Rattle.search_table.specs.Worths.{AreBoundsOf}

-- the bounds that are known are of the worth of their state by depth, at this depth
pub record IsAheadOf (states : List State) (worth : State → ℕ → ℕ) (depth : ℕ) (ahead : Ahead) : Type 0 where
  pub count : ahead.count ≡ length states
  pub few : length states ≤ 64
  pub bounds : (k : ℕ) (d : Bounds) → k < length states → AreBoundsOf (worth (slice_index_or states k [])) depth (slice_index_or ahead.bounds k d)

-- what a state with one turn left is worth, where only an end is worth more than 0
pub record IsOfLastTurn (g : Rules) (asked : Question) : Type 0 where
  pub role : asked.role < g.roles
  pub depth : asked.depth ≡ 1
  pub bound : asked.at ≡ Zero
