-- This crate's own: what `run` promises does not rest on it.
-- The terms that atoms of a word state, by number.
use Rattle.std.specs.Prelude.{ℕ, ◌==◌, cond, List, [], ◌∷◌, ◌++◌}
use Rattle.util_interner.specs.KeyLists.{key_at}

-- the term of a key with the word and one part
abbrev pub one_of : ℕ → List ℕ → List ℕ
one_of w [] = []
one_of w (v ∷ []) = []
one_of w (v ∷ (t ∷ [])) = cond (v == w) (t ∷ []) []
one_of w (v ∷ (t ∷ (u ∷ us))) = []

-- the second term of a key with the word and two parts, the first of which is r
abbrev pub second_of : ℕ → ℕ → List ℕ → List ℕ
second_of w r [] = []
second_of w r (v ∷ []) = []
second_of w r (v ∷ (t ∷ [])) = []
second_of w r (v ∷ (t ∷ (u ∷ []))) = cond (v == w) (cond (t == r) (u ∷ []) []) []
second_of w r (v ∷ (t ∷ (u ∷ (x ∷ xs)))) = []

abbrev pub one_part : List (List ℕ) → ℕ → ℕ → List ℕ
one_part keys w atom = one_of w (key_at keys atom)

abbrev pub second_part : List (List ℕ) → ℕ → ℕ → ℕ → List ℕ
second_part keys w r atom = second_of w r (key_at keys atom)

abbrev pub only_parts : List (List ℕ) → ℕ → List ℕ → List ℕ
only_parts keys w [] = []
only_parts keys w (x ∷ xs) = one_part keys w x ++ only_parts keys w xs

abbrev pub second_parts : List (List ℕ) → ℕ → ℕ → List ℕ → List ℕ
second_parts keys w r [] = []
second_parts keys w r (x ∷ xs) = second_part keys w r x ++ second_parts keys w r xs
