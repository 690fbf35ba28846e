-- This crate's own: what `run` promises does not rest on it.
-- Ground terms and atoms as a list of keys: the number of a word, and then the numbers of the parts
-- among the terms before it.
use Rattle.std.specs.Prelude.{ℕ, zero, ◌≡◌, ◌<◌, cond, List, [], ◌∷◌, ◌++◌, length, map, slice_index_or}
use Rattle.statement.specs.Tree.{Tree, name, trees_of}
use Rattle.statement.specs.Clause.{tree_at}
use Rattle.rules_clauses.specs.Numbers.{word_at}
use Rattle.rules_clauses.specs.Marks.{NumbersBelow}
use Rattle.statement.specs.Safety.{is_name_in}
use Rattle.util_interner.specs.KeyLists.{key_at}

-- the keys once one more is numbered: as they are if it is there, and else with it behind them
abbrev pub with_key : List (List ℕ) → List ℕ → List (List ℕ)
with_key keys k = cond (is_name_in k keys) keys (keys ++ k ∷ [])

abbrev pub word_of : List ℕ → ℕ
word_of [] = zero
word_of (w ∷ ps) = w

abbrev pub parts_of : List ℕ → List ℕ
parts_of [] = []
parts_of (w ∷ ps) = ps

abbrev pub term_at : List Tree → ℕ → Tree
term_at terms n = slice_index_or terms n (name [])

-- the tree of a key: a word alone is a name, and a word with parts is a list; atoms are such trees too
abbrev pub tree_of_key : List (List ℕ) → List Tree → List ℕ → Tree
tree_of_key words done k = tree_at (word_at words (word_of k)) (trees_of (map (term_at done) (parts_of k)))

abbrev pub trees_behind : List (List ℕ) → List Tree → List (List ℕ) → List Tree
trees_behind words done [] = done
trees_behind words done (k ∷ ks) = trees_behind words (done ++ tree_of_key words done k ∷ []) ks

-- the terms that keys stand for, by number
abbrev pub trees : List (List ℕ) → List (List ℕ) → List Tree
trees words keys = trees_behind words [] keys

-- the number of one of so many words, and then numbers below n
abbrev pub IsKey : ℕ → ℕ → List ℕ → Type 0
IsKey many n [] = ⊥
IsKey many n (w ∷ ps) = (w < many) × NumbersBelow n ps

-- each key stands once, behind its parts, with one of so many words
pub record AreKeys (many : ℕ) (keys : List (List ℕ)) : Type 0 where
  pub each : (i : ℕ) → i < length keys → IsKey many i (key_at keys i)
  pub once : (i j : ℕ) → i < length keys → j < length keys → key_at keys i ≡ key_at keys j → i ≡ j

-- different numbers are different trees
abbrev pub AreDifferentTerms : List Tree → Type 0
AreDifferentTerms terms = (i j : ℕ) → i < length terms → j < length terms → term_at terms i ≡ term_at terms j → i ≡ j
