-- This crate's own: what `run` promises does not rest on it.
-- What an addition to the lists in memory leaves, and what it adds.
use Rattle.std.specs.Prelude.{ℕ, suc, ◌+◌, ◌<◌, ◌≤◌, ◌≡◌, true, false, List, [], ◌∷◌, ◌++◌, length, drop, slice_index, slice_index_or, slice_range}
use Rattle.statement.specs.Tree.{Tree, name}
use Rattle.rules_clauses.specs.declared.numbered.Part.{Part}
use Rattle.rules_clauses.specs.declared.numbered.Part.TheVariants as parts
use Rattle.rules_clauses.specs.declared.numbered.Atom.{Atom}
use Rattle.rules_clauses.specs.declared.numbered.Span.{Span}
use Rattle.rules_clauses.specs.declared.signatures.Signature.{Signature}
use Rattle.statement.specs.Clause as said
use Rattle.statement.specs.Clause.{is_variable, relation_of}
use Rattle.rules_clauses.specs.Numbers.{BeginsWith, word_at, NamesDiffer}
use Rattle.rules_clauses.specs.Signatures.{signature_at}
use Rattle.rules_clauses.specs.Store.{Data, variable_name, with_part, terms_before, count_terms, AreFull, relation_at, stated_atom, stated_literal, no_literal}

-- each list is as before, with more behind it
pub record Extends (old new : Data) : Type 0 where
  pub words : BeginsWith old.words new.words
  pub signatures : BeginsWith old.signatures new.signatures
  pub variables : BeginsWith old.variables new.variables
  pub parts : BeginsWith old.parts new.parts
  pub literals : BeginsWith old.literals new.literals

-- no number stands twice
abbrev pub StandOnce : List ℕ → Type 0
StandOnce xs = (i j : ℕ) → i < length xs → j < length xs → slice_index xs i ≡ slice_index xs j → i ≡ j

abbrev pub AreDifferentSignatures : List Signature → Type 0
AreDifferentSignatures ss = (i j : ℕ) → i < length ss → j < length ss → signature_at ss i ≡ signature_at ss j → i ≡ j

-- the name of each relation is there
abbrev pub HaveNames : Data → Type 0
HaveNames d = (r : ℕ) → r < length d.signatures → (signature_at d.signatures r).word < length d.words

-- more behind each list, where different numbers stay different things
pub record DataGrows (from : ℕ) (old new : Data) : Type 0 where
  pub extends : Extends old new
  pub words : NamesDiffer old.words → NamesDiffer new.words
  pub signatures : AreDifferentSignatures old.signatures → AreDifferentSignatures new.signatures
  pub named : HaveNames old → HaveNames new
  pub variables : StandOnce (drop from old.variables) → StandOnce (drop from new.variables)

-- a variable stands for a variable of the item, and every other symbol is a constant
abbrev pub IsSorted : Data → ℕ → Part → Type 0
IsSorted d from (parts.Variable v) = (from + v < length d.variables) × (slice_index d.variables (from + v) < length d.words)
    × (is_variable (variable_name d from v) ≡ true)
IsSorted d from (parts.Constant s) = (s < length d.words) × (is_variable (word_at d.words s) ≡ false)
IsSorted d from (parts.List s n) = (s < length d.words) × (is_variable (word_at d.words s) ≡ false)

abbrev pub AreSorted : Data → ℕ → List Part → Type 0
AreSorted d from [] = Unit {0}
AreSorted d from (p ∷ ps) = IsSorted d from p × AreSorted d from ps

-- whatever comes behind them, the parts stand for the terms
pub record Spells (from : ℕ) (now : Data) (ps : List Part) (ts : List Tree) : Type 0 where
  pub terms : (later : Data) → Extends now later → (behind : List Tree) → terms_before later from ps behind ≡ ts ++ behind
  pub sorted : (later : Data) → Extends now later → AreSorted later from ps
  pub full : (behind : List Part) → AreFull behind → AreFull (ps ++ behind)
  pub count : (behind : List Part) → count_terms (ps ++ behind) ≡ length ts + count_terms behind

-- the terms were added
pub record AddsTerms (from : ℕ) (old new : Data) (ts : List Tree) : Type 0 where
  pub grows : DataGrows from old new
  pub added : List Part
  pub behind : new.parts ≡ old.parts ++ added
  pub spells : Spells from new added ts

-- a part was made for a name, and no part was added
pub record MakesPart (from : ℕ) (old new : Data) (p : Part) (word : List ℕ) : Type 0 where
  pub grows : DataGrows from old new
  pub same_parts : new.parts ≡ old.parts
  pub term : (later : Data) → Extends new later → (behind : List Tree) → with_part later from p behind ≡ name word ∷ behind
  pub sorted : (later : Data) → Extends new later → IsSorted later from p
  pub full : (behind : List Part) → AreFull behind → AreFull (p ∷ behind)
  pub count : (behind : List Part) → count_terms (p ∷ behind) ≡ suc (count_terms behind)

-- the part that begins a list of n terms behind a word was added
pub record BeginsList (from : ℕ) (old new : Data) (word : List ℕ) (n : ℕ) : Type 0 where
  pub grows : DataGrows from old new
  pub symbol : ℕ
  pub behind : new.parts ≡ old.parts ++ parts.List symbol n ∷ []
  pub named : (later : Data) → Extends new later → (symbol < length later.words) × (word_at later.words symbol ≡ word)

-- the variables of an item stand in the place, each once
pub record HasVariables (d : Data) (place : Span) : Type 0 where
  pub order : place.from ≤ place.to
  pub within : place.to ≤ length d.variables
  pub once : (i j : ℕ) → place.from ≤ i → i < place.to → place.from ≤ j → j < place.to → slice_index d.variables i ≡ slice_index d.variables j → i ≡ j

-- the numbers stand for the atom
pub record AtomStandsFor (from : ℕ) (d : Data) (a : Atom) (atom : said.Atom) : Type 0 where
  pub relation : a.relation < length d.signatures
  pub word : (signature_at d.signatures a.relation).word < length d.words
  pub same_relation : relation_at d a.relation ≡ relation_of atom
  pub order : a.terms.from ≤ a.terms.to
  pub within : a.terms.to ≤ length d.parts
  pub same : stated_atom d from a ≡ atom
  pub sorted : AreSorted d from (slice_range d.parts a.terms.from a.terms.to)
  pub full : AreFull (slice_range d.parts a.terms.from a.terms.to)

-- the number stands for the relation, whatever comes behind it
pub record NumbersRelation (from : ℕ) (old new : Data) (r : ℕ) (relation : said.Relation) : Type 0 where
  pub grows : DataGrows from old new
  pub within : (later : Data) → Extends new later → r < length later.signatures
  pub named : (later : Data) → Extends new later → (signature_at later.signatures r).word < length later.words
  pub same : (later : Data) → Extends new later → relation_at later r ≡ relation

-- the atom was added, and stays whatever comes behind it
pub record AddsAtom (from : ℕ) (old new : Data) (a : Atom) (atom : said.Atom) : Type 0 where
  pub grows : DataGrows from old new
  pub stands : (later : Data) → Extends new later → AtomStandsFor from later a atom

-- the number stands for the literal
pub record LiteralStandsFor (from : ℕ) (d : Data) (n : ℕ) (l : said.Literal) : Type 0 where
  pub within : n < length d.literals
  pub atom : AtomStandsFor from d (slice_index_or d.literals n no_literal).atom (said.atom_of l)
  pub same : stated_literal d from n ≡ l

-- the literal was added, and stays whatever comes behind it
pub record AddsLiteral (from : ℕ) (old new : Data) (n : ℕ) (l : said.Literal) : Type 0 where
  pub grows : DataGrows from old new
  pub stands : (later : Data) → Extends new later → LiteralStandsFor from later n l

-- the numbers stand for the literals, one by one
abbrev pub StandForEach : ℕ → Data → List ℕ → List said.Literal → Type 0
StandForEach from d [] [] = Unit {0}
StandForEach from d [] (l ∷ ls) = ⊥
StandForEach from d (n ∷ ns) [] = ⊥
StandForEach from d (n ∷ ns) (l ∷ ls) = LiteralStandsFor from d n l × StandForEach from d ns ls

-- the same of lists of them
abbrev pub StandForLists : ℕ → Data → List (List ℕ) → List (List said.Literal) → Type 0
StandForLists from d [] [] = Unit {0}
StandForLists from d [] (r ∷ rs) = ⊥
StandForLists from d (ns ∷ lists) [] = ⊥
StandForLists from d (ns ∷ lists) (r ∷ rs) = StandForEach from d ns r × StandForLists from d lists rs

-- the literals of the readings were added, and the lists of their numbers stand for the readings
pub record Spreads (from : ℕ) (old new : Data) (lists : List (List ℕ)) (readings : List (List said.Literal)) : Type 0 where
  pub grows : DataGrows from old new
  pub stand : (later : Data) → Extends new later → StandForLists from later lists readings
