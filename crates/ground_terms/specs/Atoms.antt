-- This crate's own: what `run` promises does not rest on it.
-- Atoms by the numbers of terms, while terms grow.
use Rattle.std.specs.Prelude.{ℕ, ◌≡◌, cond, nat_eq, List, [], ◌∷◌, ◌++◌, length, map}
use Rattle.std.specs.List.{list_any}
use Rattle.statement.specs.Tree.{Tree}
use Rattle.statement.specs.Clause.{Atom, tree_of}
use Rattle.rules_clauses.specs.Numbers.{BeginsWith}
use Rattle.ground_terms.specs.Arena.{Held, AreNumbered, sizes_of}
use Rattle.rules_clauses.specs.Marks.{NumbersBelow}
use Rattle.ground_terms.specs.Keys.{term_at, trees}

-- numbers of terms that are atoms
pub record AreAtoms (terms : List Tree) (numbers : List ℕ) (atoms : List Atom) : Type 0 where
  pub below : NumbersBelow (length terms) numbers
  pub same : map (term_at terms) numbers ≡ map tree_of atoms

-- numbers with further ones, each once
abbrev pub with_number : List ℕ → ℕ → List ℕ
with_number ns m = cond (list_any (nat_eq m) ns) ns (ns ++ m ∷ [])

abbrev pub with_numbers : List ℕ → List ℕ → List ℕ
with_numbers ns [] = ns
with_numbers ns (m ∷ ms) = with_numbers (with_number ns m) ms

-- the terms are those of words
pub record WordTerms (words : List (List ℕ)) (held : Held) : Type 0 where
  pub numbered : AreNumbered (length words) held.keys
  pub sizes : sizes_of words ≡ held.sizes

-- more terms may stand behind those before
pub record HasGrown (words : List (List ℕ)) (old new : Held) : Type 0 where
  pub terms : WordTerms words new
  pub front : BeginsWith old.keys new.keys

-- terms grew, and further atoms were numbered, each once
pub record AddsAtoms (words : List (List ℕ)) (old new : Held) (before after : List ℕ) (atoms : List Atom) : Type 0 where
  pub grown : HasGrown words old new
  pub numbers : List ℕ
  pub same : after ≡ with_numbers before numbers
  pub are : AreAtoms (trees words new.keys) numbers atoms
