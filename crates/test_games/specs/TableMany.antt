-- This crate's own: what `run` promises does not rest on it.
-- Up to 64 states of the game of one turn.
use Rattle.std.specs.Prelude.{ℕ, ◌<◌, ◌≤◌, List, [], ◌∷◌, map, take, slice_index}
use Rattle.test_games.specs.declared.table.Cells.{Cells}

pub record AreCells (m : Cells) : Type 0 where
  pub few : m.count ≤ 64
  pub within : (k : ℕ) → k < 64 → slice_index m.cells k ≤ 8

abbrev pub chosen_states : Cells → List (List ℕ)
chosen_states m = map (λ c. c ∷ []) (take m.count m.cells)
