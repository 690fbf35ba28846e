-- This crate's own: what `run` promises does not rest on it.
-- Which base propositions hold at the start, by the numbers of terms.
use Rattle.std.specs.Prelude.{ℕ, Bool, List, [], ◌∷◌}
use Rattle.std.specs.List.{list_any}
use Rattle.statement.specs.Tree.{name_eq}
use Rattle.util_interner.specs.KeyLists.{key_at}

-- one of the atoms has the key
abbrev pub has_key : List (List ℕ) → List ℕ → List ℕ → Bool
has_key keys atoms key = list_any (λ n. name_eq (key_at keys n) key) atoms

-- `init` of the term is an atom
abbrev pub starts_in : List (List ℕ) → List ℕ → ℕ → ℕ → Bool
starts_in keys atoms init p = has_key keys atoms (init ∷ p ∷ [])
