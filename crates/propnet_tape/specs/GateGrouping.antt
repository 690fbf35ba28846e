-- This crate's own: what `run` promises does not rest on it.
-- Bits of a group that are marked.
use Rattle.std.specs.Prelude.{ℕ, Bool, false, ◌&&◌, ◌||◌, ◌+◌, ◌*◌, ◌≡◌, ◌<◌, List, [], ◌∷◌, length, slice_index_or}

-- some bit, from this number on, is marked and its literal is true
abbrev pub any_marked : (ℕ → Bool) → ℕ → List Bool → Bool
any_marked w from [] = false
any_marked w from (m ∷ ms) = (m && w (2 + 2 * from)) || any_marked w (from + 1) ms

-- no bit is marked
abbrev pub are_unmarked : List Bool → Type 0
are_unmarked marks = (k : ℕ) → k < length marks → slice_index_or marks k false ≡ false
