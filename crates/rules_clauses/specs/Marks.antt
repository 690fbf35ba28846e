-- This crate's own: what `run` promises does not rest on it.
-- Safety over the numbers of variables.
use Rattle.std.specs.Prelude.{ℕ, ◌<◌, ◌≤◌, ◌≡◌, Bool, true, false, not, cond, ◌&&◌, List, [], ◌∷◌, ◌++◌, length, replicate, slice_index_or}
use Rattle.std.specs.Prelude.{slice_range, slice_set}
use Rattle.rules_clauses.specs.declared.numbered.Part.{Part}
use Rattle.rules_clauses.specs.declared.numbered.Part.TheVariants as parts
use Rattle.rules_clauses.specs.declared.numbered.Atom.{Atom}
use Rattle.rules_clauses.specs.declared.numbered.Literal.{Literal}
use Rattle.statement.specs.Dependence.{is_distinct}
use Rattle.rules_clauses.specs.Signatures.{signature_at}
use Rattle.rules_clauses.specs.Store.{Data, count_terms, AreFull, relation_at, no_literal}
use Rattle.rules_clauses.specs.Adding.{AreSorted}

-- the numbers of the variables in parts, each as often as it stands there
abbrev pub variable_numbers : List Part → List ℕ
variable_numbers [] = []
variable_numbers (parts.Variable v ∷ ps) = v ∷ variable_numbers ps
variable_numbers (parts.Constant s ∷ ps) = variable_numbers ps
variable_numbers (parts.List s n ∷ ps) = variable_numbers ps

abbrev pub with_marks : List Bool → List ℕ → List Bool
with_marks ms [] = ms
with_marks ms (v ∷ vs) = with_marks (slice_set ms v true) vs

abbrev pub all_marked : List Bool → List ℕ → Bool
all_marked ms [] = true
all_marked ms (v ∷ vs) = slice_index_or ms v false && all_marked ms vs

abbrev pub NumbersBelow : ℕ → List ℕ → Type 0
NumbersBelow n [] = Unit {0}
NumbersBelow n (x ∷ xs) = (x < n) × NumbersBelow n xs

abbrev pub literal_in : Data → ℕ → Literal
literal_in d n = slice_index_or d.literals n no_literal

abbrev pub atom_numbers : Data → Atom → List ℕ
atom_numbers d a = variable_numbers (slice_range d.parts a.terms.from a.terms.to)

-- a positive literal binds its variables, and `distinct` is none
abbrev pub binds : Data → Literal → Bool
binds d l = not l.is_negated && not (is_distinct (relation_at d l.atom.relation))

abbrev pub bound_numbers : Data → List ℕ → List ℕ
bound_numbers d [] = []
bound_numbers d (n ∷ ns) = cond (binds d (literal_in d n)) (atom_numbers d (literal_in d n).atom) [] ++ bound_numbers d ns

abbrev pub needed_numbers : Data → List ℕ → List ℕ
needed_numbers d [] = []
needed_numbers d (n ∷ ns) = cond (binds d (literal_in d n)) [] (atom_numbers d (literal_in d n).atom) ++ needed_numbers d ns

-- what an atom names is there
pub record IsInside (from : ℕ) (d : Data) (a : Atom) : Type 0 where
  pub relation : a.relation < length d.signatures
  pub word : (signature_at d.signatures a.relation).word < length d.words
  pub order : a.terms.from ≤ a.terms.to
  pub within : a.terms.to ≤ length d.parts
  pub sorted : AreSorted d from (slice_range d.parts a.terms.from a.terms.to)
  pub full : AreFull (slice_range d.parts a.terms.from a.terms.to)
  pub arity : (signature_at d.signatures a.relation).arity ≡ count_terms (slice_range d.parts a.terms.from a.terms.to)

abbrev pub AreInside : ℕ → Data → List ℕ → Type 0
AreInside from d [] = Unit {0}
AreInside from d (n ∷ ns) = ((n < length d.literals) × IsInside from d (literal_in d n).atom) × AreInside from d ns

-- every variable of the head, of a negated literal or of a `distinct` is bound
abbrev pub is_safe_by : ℕ → Data → Atom → List ℕ → Bool
is_safe_by many d head body = all_marked (with_marks (replicate many false) (bound_numbers d body)) (atom_numbers d head ++ needed_numbers d body)

abbrev pub AreAllInside : ℕ → Data → List (List ℕ) → Type 0
AreAllInside from d [] = Unit {0}
AreAllInside from d (b ∷ bodies) = AreInside from d b × AreAllInside from d bodies

abbrev pub are_safe_by : ℕ → Data → Atom → List (List ℕ) → Bool
are_safe_by many d head [] = true
are_safe_by many d head (b ∷ bodies) = is_safe_by many d head b && are_safe_by many d head bodies
