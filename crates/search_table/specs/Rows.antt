-- This crate's own: what `run` promises does not rest on it.
-- Rows of words: each has a word that keeps an entry, and behind it the words of a key.
use Rattle.std.specs.Prelude.{ℕ, ◌≡◌, ◌≢◌, ◌<◌, List, ◌∷◌}
use Rattle.game.specs.Keys.{key_at}
use Rattle.search_table.specs.Says.{Says, entry_in}

-- the entry of a row holds; 0 keeps none
abbrev pub RowHolds : (List ℕ → ℕ → ℕ) → List ℕ → Type 0
RowHolds worth row = (word : ℕ) (key : List ℕ) → row ≡ word ∷ key → word ≢ 0 → Says (entry_in word) (worth key)

-- the same of each of the first rows of so many words
abbrev pub RowsHold : (List ℕ → ℕ → ℕ) → List ℕ → ℕ → ℕ → Type 0
RowsHold worth words stride count = (e : ℕ) → e < count → RowHolds worth (key_at words stride e)
