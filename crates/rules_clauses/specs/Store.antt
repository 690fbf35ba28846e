-- This crate's own: what `run` promises does not rest on it.
-- Terms, atoms and literals in flat lists, and what they stand for.
use Rattle.std.specs.Prelude.{ℕ, suc, ◌+◌, ◌-◌, ◌≤◌, false, cond, List, [], ◌∷◌, take, drop, slice_index, slice_index_or, slice_range}
use Rattle.statement.specs.Tree.{Tree, name, list, tree, trees_of}
use Rattle.rules_clauses.specs.declared.numbered.Part.{Part}
use Rattle.rules_clauses.specs.declared.numbered.Part.TheVariants as parts
use Rattle.rules_clauses.specs.declared.numbered.Atom.{Atom}
use Rattle.rules_clauses.specs.declared.numbered.Literal.{Literal}
use Rattle.rules_clauses.specs.declared.signatures.Signature.{Signature}
use Rattle.statement.specs.Clause as said
use Rattle.statement.specs.Clause.{is_variable, positive, negative}
use Rattle.rules_clauses.specs.Numbers.{word_at}
use Rattle.rules_clauses.specs.Signatures.{signature_at}

-- what stands in memory: names, relations, the variables of all items as symbols, terms and literals
pub record Data : Type 0 where
  pub words : List (List ℕ)
  pub signatures : List Signature
  pub variables : List ℕ
  pub parts : List Part
  pub literals : List Literal

-- the name of variable v of an item whose variables stand from a place on
abbrev pub variable_name : Data → ℕ → ℕ → List ℕ
variable_name d from v = word_at d.words (slice_index d.variables (from + v))

-- the terms before a part, of which a list takes its own
abbrev pub with_part : Data → ℕ → Part → List Tree → List Tree
with_part d from (parts.Variable v) behind = name (variable_name d from v) ∷ behind
with_part d from (parts.Constant s) behind = name (word_at d.words s) ∷ behind
with_part d from (parts.List s n) behind = list (tree (name (word_at d.words s)) (trees_of (take n behind))) ∷ drop n behind

-- the terms that parts stand for, with those that stand behind them
abbrev pub terms_before : Data → ℕ → List Part → List Tree → List Tree
terms_before d from [] behind = behind
terms_before d from (p ∷ ps) behind = with_part d from p (terms_before d from ps behind)

-- how many terms parts are, where each list takes its own from those behind it
abbrev pub count_terms : List Part → ℕ
count_terms [] = 0
count_terms (parts.Variable v ∷ ps) = suc (count_terms ps)
count_terms (parts.Constant s ∷ ps) = suc (count_terms ps)
count_terms (parts.List s n ∷ ps) = suc (count_terms ps - n)

-- each list has all of its terms behind it
abbrev pub AreFull : List Part → Type 0
AreFull [] = Unit {0}
AreFull (parts.Variable v ∷ ps) = AreFull ps
AreFull (parts.Constant s ∷ ps) = AreFull ps
AreFull (parts.List s n ∷ ps) = (n ≤ count_terms ps) × AreFull ps

abbrev pub relation_at : Data → ℕ → said.Relation
relation_at d r = record { word = word_at d.words (signature_at d.signatures r).word; arity = (signature_at d.signatures r).arity }

-- the atom that stands for an item whose variables stand from a place on
abbrev pub stated_atom : Data → ℕ → Atom → said.Atom
stated_atom d from a =
    record { word = (relation_at d a.relation).word; terms = trees_of (terms_before d from (slice_range d.parts a.terms.from a.terms.to) []) }

abbrev pub literal_of : Data → ℕ → Literal → said.Literal
literal_of d from l = cond l.is_negated (negative (stated_atom d from l.atom)) (positive (stated_atom d from l.atom))

abbrev pub no_literal : Literal
no_literal = record { atom = record { relation = 0; terms = record { from = 0; to = 0 } }; is_negated = false }

abbrev pub stated_literal : Data → ℕ → ℕ → said.Literal
stated_literal d from n = literal_of d from (slice_index_or d.literals n no_literal)
