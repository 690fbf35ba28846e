-- This crate's own: what `run` promises does not rest on it.
-- What one row of a join makes of the atoms of an alternative.
use Rattle.std.specs.List.{list_any}
use Rattle.std.specs.Prelude.{ℕ, cond, nat_eq, ◌≡◌, ◌<◌, Bool, true, false, List, [], ◌∷◌, ⊤, ◌++◌, length, map, filter, Option, Some, None, unwrap_or, slice_get, slice_index, slice_set, IfSome, ◌⊎◌}
use Rattle.rules_clauses.specs.declared.numbered.Atom.{Atom}
use Rattle.rules_clauses.specs.declared.numbered.Part.{Part}
use Rattle.statement.specs.Clause as said
use Rattle.statement.specs.Clause.{Literal, Alternative, tree_of}
use Rattle.statement.specs.Kept.{is_read, reading}
use Rattle.statement.specs.Printed.{first_place}
use Rattle.rules.specs.Drafts.{Numbered, alternative_of}
use Rattle.rules_clauses.specs.Marks.{literal_in, binds, NumbersBelow}
use Rattle.rules_clauses.specs.Store.{Data, stated_atom, stated_literal}
use Rattle.ground_rows.specs.declared.rows.BuiltHead.{BuiltHead}
use Rattle.ground_rows.specs.declared.rows.Scratch.{Scratch}
use Rattle.ground_rows.specs.Pairs.{HaveSameValues}
use Rattle.ground_terms.specs.Atoms.{AreAtoms}
use Rattle.ground_terms.specs.Keys.{term_at, trees}
use Rattle.statement.specs.Listing.{Instance, instance_of, is_atom_in}
use Rattle.statement.specs.Matching.{map_of}
use Rattle.ground_matching.specs.Plans.{number_in}
use Rattle.ground_matching.specs.Places.{names_in_places}
use Rattle.ground_matching.specs.Standing.{bindings, DifferInNames}
use Rattle.statement.specs.Substitution.{Map, atom_under, literal_under}

-- the map that the values of a row are
abbrev pub row_map : Data → List (List ℕ) → List (Option ℕ) → List ℕ → Map
row_map d keys places values = map_of (bindings (trees d.words keys) (names_in_places d.words places) values)

-- a row has a term for each place, and no variable has two places
pub record IsRow (d : Data) (keys : List (List ℕ)) (places : List (Option ℕ)) (values : List ℕ) : Type 0 where
  pub names : DifferInNames (names_in_places d.words places)
  pub long : length values ≡ length places
  pub below : NumbersBelow (length keys) values

-- a number is that of the atom that a row makes of a literal which binds
pub record IsRowNumber (d : Data) (from : ℕ) (keys : List (List ℕ)) (places : List (Option ℕ)) (values : List ℕ) (n k : ℕ) : Type 0 where
  pub within : k < length keys
  pub binding : binds d (literal_in d n) ≡ true
  pub is : term_at (trees d.words keys) k ≡ tree_of (atom_under (row_map d keys places values) (stated_atom d from (literal_in d n).atom))

-- what a row has as numbers of atoms are the numbers of those that it makes of literals
abbrev pub HaveNumbers : Data → ℕ → List (List ℕ) → List ℕ → List (Option ℕ) → List ℕ → List ℕ → List (Option ℕ) → Type 0
HaveNumbers d from keys atoms places values ns ps =
    (i k : ℕ) → i < length ns → number_in atoms (number_in values (unwrap_or (slice_get ps i) None)) ≡ Some k
    → IsRowNumber d from keys places values (slice_index ns i) k

-- a number is that of the atom that a row makes of a head
pub record IsHeadOf (d : Data) (from : ℕ) (keys : List (List ℕ)) (places : List (Option ℕ)) (a : Atom) (values : List ℕ) (k : ℕ) : Type 0 where
  pub row : IsRow d keys places values
  pub within : k < length keys
  pub is : term_at (trees d.words keys) k ≡ tree_of (atom_under (row_map d keys places values) (stated_atom d from a))

-- the head that was built is that of the values kept with it
abbrev pub IsBuiltHead : Data → ℕ → List (List ℕ) → List (Option ℕ) → Atom → BuiltHead → Type 0
IsBuiltHead d from keys places a h = IfSome h.head (λ k. IsHeadOf d from keys places a h.values.items k)

-- and so is each of several
abbrev pub AreBuiltHeads : Data → ℕ → List (List ℕ) → List (Option ℕ) → Atom → List BuiltHead → Type 0
AreBuiltHeads d from keys places a [] = ⊤
AreBuiltHeads d from keys places a (h ∷ hs) = IsBuiltHead d from keys places a h × AreBuiltHeads d from keys places a hs

-- what is kept from row to row is right: heads that were built, and the number of some term
pub record IsScratch (d : Data) (from : ℕ) (keys : List (List ℕ)) (places : List (Option ℕ)) (a : Atom) (s : Scratch) : Type 0 where
  pub recent_are : AreBuiltHeads d from keys places a s.recent.heads.items
  pub long_within : IfSome s.long (λ k. k < length keys)

-- a slot has a number of a head, and the same values in the head's parts
abbrev pub IsInSlot : List BuiltHead → ℕ → List Part → List ℕ → ℕ → Type 0
IsInSlot hs slot ps values k =
    (h : BuiltHead) × (slice_get hs slot ≡ Some h) × (h.head ≡ Some k) × HaveSameValues h.values.items values ps

-- at most the head in a slot is another, and then it is the one of these values
abbrev pub KeepsHead : List BuiltHead → List BuiltHead → ℕ → List ℕ → ℕ → Type 0
KeepsHead old new slot values k =
    (new ≡ old) ⊎ ((h : BuiltHead) × (new ≡ slice_set old slot h) × (h.values.items ≡ values) × (h.head ≡ Some k))

-- what a row makes of a literal
abbrev pub literal_by : Data → ℕ → List (List ℕ) → List (Option ℕ) → List ℕ → ℕ → Literal
literal_by d from keys places values n = literal_under (row_map d keys places values) (stated_literal d from n)

-- the atom that a row makes of that of a literal
abbrev pub atom_by : Data → ℕ → List (List ℕ) → List (Option ℕ) → List ℕ → ℕ → said.Atom
atom_by d from keys places values n = atom_under (row_map d keys places values) (stated_atom d from (literal_in d n).atom)

-- an atom is none of those that numbers stand for
abbrev pub IsNowhere : List (List ℕ) → List (List ℕ) → List ℕ → said.Atom → Type 0
IsNowhere words keys numbers x = (so_far : List said.Atom) → AreAtoms (trees words keys) numbers so_far → is_atom_in x so_far ≡ false

-- the number of an atom as a term; where there is none, it is none of those that numbers stand for
abbrev pub IsNumberIn : List (List ℕ) → List (List ℕ) → List ℕ → said.Atom → Option ℕ → Type 0
IsNumberIn words keys numbers x (Some k) = (k < length keys) × (term_at (trees words keys) k ≡ tree_of x)
IsNumberIn words keys numbers x None = IsNowhere words keys numbers x

-- whether a number of an atom is among numbers
abbrev pub is_found_in : List ℕ → Option ℕ → Bool
is_found_in numbers (Some k) = list_any (nat_eq k) numbers
is_found_in numbers None = false

-- the negated literal with the place where it stands, if it is
abbrev pub literal_found : List ℕ → Option ℕ → List (ℕ × Bool)
literal_found numbers (Some k) = cond (list_any (nat_eq k) numbers) ((first_place (nat_eq k) numbers, true) ∷ []) []
literal_found numbers None = []

-- the literals that are read were added, by the numbers of their atoms, where the atoms are those that numbers of these terms stand for
pub record ReadsLiterals (rules : List Alternative) (words keys : List (List ℕ)) (numbers : List ℕ) (before after : List (ℕ × Bool))
    (literals : List Literal) : Type 0 where
  pub more : List (ℕ × Bool)
  pub same : after ≡ before ++ more
  pub read_are : (so_far : List said.Atom) → AreAtoms (trees words keys) numbers so_far
      → more ≡ map (reading so_far) (filter (is_read rules so_far) literals)

-- what a row makes of the alternative at a place
abbrev pub instance_by : Data → ℕ → Numbered → List (List ℕ) → List (Option ℕ) → List ℕ → Instance
instance_by d place n keys places values = instance_of place (alternative_of d n) (row_map d keys places values)

-- the instances of rows
abbrev pub instances_by : Data → ℕ → Numbered → List (List ℕ) → List (Option ℕ) → List (List ℕ) → List Instance
instances_by d place n keys places rows = map (λ vs. instance_by d place n keys places vs) rows
