-- This crate's own: what `run` promises does not rest on it.
-- The atom that a literal without variables is.
use Rattle.std.specs.Prelude.{ℕ, zero, ◌≡◌, ◌-◌, ◌&&◌, List, [], ◌∷◌, length, reverse, drop, Some, true, false, Bool}
use Rattle.rules_clauses.specs.declared.numbered.Part.{Part}
use Rattle.rules_clauses.specs.declared.numbered.Part.TheVariants as parts
use Rattle.util_interner.specs.KeyLists.{key_at}
use Rattle.ground_matching.specs.Cells.{leaf_numbers}
use Rattle.ground_terms.specs.Keys.{word_of, parts_of, AreKeys}

abbrev pub is_constant : Part → Bool
is_constant (parts.Variable v) = false
is_constant (parts.Constant s) = true
is_constant (parts.List s n) = true

-- no part is a variable
abbrev pub are_constant : List Part → Bool
are_constant [] = true
are_constant (p ∷ ps) = is_constant p && are_constant ps

-- the numbers of the constants in the places of the names
abbrev pub constants : List Part → List ℕ
constants [] = []
constants (parts.Variable v ∷ ps) = zero ∷ constants ps
constants (parts.Constant s ∷ ps) = s ∷ constants ps
constants (parts.List s n ∷ ps) = constants ps

-- terms have the lists of parts, and their constants in the places of the names
abbrev pub HaveConstants : List (List ℕ) → List Part → List ℕ → Type 0
HaveConstants keys ps xs = leaf_numbers keys ps xs ≡ Some (constants ps)

-- an atom is the one of a word and parts without variables
abbrev pub IsSaid : List (List ℕ) → ℕ → List Part → ℕ → Type 0
IsSaid keys w ps x = (word_of (key_at keys x) ≡ w) × HaveConstants keys ps (parts_of (key_at keys x))

-- the key of a symbol and so many numbers from the top of a stack
abbrev pub key_of_top : ℕ → ℕ → List ℕ → List ℕ
key_of_top s n stack = s ∷ reverse (drop (length stack - n) stack)

-- if a stack has the only terms that have what is behind a part, it has, with the part before it, the only ones that have that too,
-- and where the part's term is not found there are none
abbrev pub PutsNumber : List (List ℕ) → Part → Bool → List ℕ → List ℕ → Type 0
PutsNumber keys p found before after =
    (many : ℕ) → AreKeys many keys → (ps : List Part)
    → ((xs : List ℕ) → HaveConstants keys ps xs → reverse before ≡ xs)
    → (xs : List ℕ) → HaveConstants keys (p ∷ ps) xs → (found ≡ true) × (reverse after ≡ xs)
