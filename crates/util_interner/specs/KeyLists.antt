-- This crate's own: what `run` promises does not rest on it.
-- Lists of numbers, one behind the other.
use Rattle.std.specs.Prelude.{ℕ, ◌≡◌, ◌≤◌, List, [], ◌∷◌, slice_range, slice_index_or}

-- the lists that end at these places, where the first begins at a place
abbrev pub lists_at : ℕ → List ℕ → List ℕ → List (List ℕ)
lists_at from [] xs = []
lists_at from (e ∷ es) xs = slice_range xs from e ∷ lists_at e es xs

-- each list begins where the one before ends, and the last ends at n
abbrev pub AreEnds : ℕ → List ℕ → ℕ → Type 0
AreEnds from [] n = from ≡ n
AreEnds from (e ∷ es) n = (from ≤ e) × AreEnds e es n

-- the list of a number, and the empty one where it has none
abbrev pub key_at : List (List ℕ) → ℕ → List ℕ
key_at keys n = slice_index_or keys n []
