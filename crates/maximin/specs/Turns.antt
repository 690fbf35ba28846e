-- This crate's own: what `run` promises does not rest on it.
-- The joint moves of a state, in order.
use Rattle.std.specs.Prelude.{◌≡◌, ℕ, ◌<◌, ◌++◌, suc, List, [], ◌∷◌, length, map, drop, slice_index, slice_index_or}
use Rattle.std.specs.List.{flat_map}
use Rattle.statement.specs.Rules.{Turn, all_picks}

-- the joint move stands at these places of the lists
pub record StandsAt (lists : List (List ℕ)) (places : List ℕ) (joint : Turn) : Type 0 where
  pub place_for_each : length places ≡ length lists
  pub move_for_each : length joint ≡ length lists
  pub in_list : (q : ℕ) → q < length lists → slice_index places q < length (slice_index_or lists q [])
  pub at_place : (q : ℕ) → q < length lists → slice_index joint q ≡ slice_index (slice_index_or lists q []) (slice_index places q)

-- the all_picks that stand after the pick at these places
abbrev pub later : List (List ℕ) → List ℕ → List Turn
later [] places = []
later (xs ∷ rest) [] = []
later (xs ∷ rest) (place ∷ places) =
    map (λ j. slice_index xs place ∷ j) (later rest places)
    ++ flat_map (λ x. map (λ j. x ∷ j) (all_picks rest)) (drop (suc place) xs)
