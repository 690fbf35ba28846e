-- This crate's own: what `run` promises does not rest on it.
-- Lists that grow, and names by number.
use Rattle.std.specs.Prelude.{ℕ, ◌≡◌, ◌<◌, cond, drop, Bool, false, ◌==◌, ◌||◌, List, [], ◌∷◌, ◌++◌, length, slice_index_or}
use Rattle.statement.specs.Safety.{is_name_in}

-- what ys is xs and then more
abbrev pub BeginsWith : {A : Type 0} → List A → List A → Type 0
BeginsWith {A} xs ys = (more : List A) × (ys ≡ xs ++ more)

-- the name with a number
abbrev pub word_at : List (List ℕ) → ℕ → List ℕ
word_at words n = slice_index_or words n []

-- the names once one more is numbered: as they are if it is there, and else with it behind them
abbrev pub with_word : List (List ℕ) → List ℕ → List (List ℕ)
with_word words w = cond (is_name_in w words) words (words ++ w ∷ [])

-- different numbers are different names
abbrev pub NamesDiffer : List (List ℕ) → Type 0
NamesDiffer words = (i j : ℕ) → i < length words → j < length words → word_at words i ≡ word_at words j → i ≡ j

abbrev pub is_number_in : ℕ → List ℕ → Bool
is_number_in x [] = false
is_number_in x (y ∷ ys) = (x == y) || is_number_in x ys

-- numbers with one more, if it does not stand from a place on already
abbrev pub with_fresh : ℕ → List ℕ → ℕ → List ℕ
with_fresh from xs x = cond (is_number_in x (drop from xs)) xs (xs ++ x ∷ [])
