-- This crate's own: what `run` promises does not rest on it.
-- The context of play, by the numbers of terms.
use Rattle.std.specs.Prelude.{ℕ, ◌≡◌, ◌+◌, nat_lt, List, [], ◌∷◌, ◌++◌, length, map, Option, ⊤}
use Rattle.std.specs.List.{All}
use Rattle.statement.specs.Tree.{Tree, text}
use Rattle.rules.specs.declared.rule_set.Keywords.{Keywords}
use Rattle.statement.specs.Clause.{Atom, Alternative}
use Rattle.statement.specs.declared.excess.Excess.{Excess}
use Rattle.statement.specs.declared.excess.Excess.TheVariants.{Base, Inputs}
use Rattle.ground_rows.specs.declared.most.Most.{Most}
use Rattle.ground_terms.specs.declared.naming.Named.{Named}
use Rattle.rules_clauses.specs.Numbers.{word_at}
use Rattle.ground_terms.specs.Keys.{term_at}
use Rattle.statement.specs.Limits.{or_excess, where_true}
use Rattle.statement.specs.Listing.{role_list, base_list, input_list}
use Rattle.statement.specs.Meaning.{atom1, atom2}
use Rattle.ground_terms.specs.Naming.{IsNamed, AreNamed}
use Rattle.ground_terms.specs.Stated.{only_parts, second_parts}

-- the inputs of each role that atoms state, in the order of the roles
abbrev pub inputs_of_roles : List (List ℕ) → ℕ → List ℕ → List ℕ → List (List ℕ)
inputs_of_roles keys w atoms roles = map (λ r. second_parts keys w r atoms) roles

abbrev pub roles_stated : List (List ℕ) → Keywords → List ℕ → List ℕ
roles_stated keys words atoms = only_parts keys words.role atoms

abbrev pub bases_stated : List (List ℕ) → Keywords → List ℕ → List ℕ
bases_stated keys words atoms = only_parts keys words.base atoms

abbrev pub inputs_stated : List (List ℕ) → Keywords → List ℕ → List (List ℕ)
inputs_stated keys words atoms = inputs_of_roles keys words.input atoms (roles_stated keys words atoms)

-- how many stand in all lists
abbrev pub count_in : List (List ℕ) → ℕ
count_in [] = 0
count_in (ns ∷ rest) = length ns + count_in rest

-- the limit that so many base propositions, and so many inputs, pass
abbrev pub excess_of : Most → ℕ → ℕ → Option Excess
excess_of most bases inputs = or_excess (where_true (nat_lt most.base bases) Base) (where_true (nat_lt most.inputs inputs) Inputs)

-- that of what atoms state
abbrev pub excess_stated : Most → List (List ℕ) → Keywords → List ℕ → Option Excess
excess_stated most keys words atoms = excess_of most (length (bases_stated keys words atoms)) (count_in (inputs_stated keys words atoms))

-- the terms of what is named
abbrev pub terms_named : List Named → List ℕ
terms_named ns = map (λ (n : Named). n.term) ns

-- the terms of each list stand with their texts, in printed order
abbrev pub AreAllNamed : List Tree → List (List ℕ) → List (List Named) → Type 0
AreAllNamed terms [] [] = ⊤
AreAllNamed terms [] (ns ∷ rest) = ⊥
AreAllNamed terms (ms ∷ lists) [] = ⊥
AreAllNamed terms (ms ∷ lists) (ns ∷ rest) = AreNamed terms ms ns × AreAllNamed terms lists rest

-- the atoms `(w r m)` of each role r and the terms m beside it
abbrev pub moves_by : List ℕ → List Tree → List ℕ → List (List ℕ) → List Atom
moves_by w terms [] lists = []
moves_by w terms (r ∷ rs) [] = []
moves_by w terms (r ∷ rs) (ms ∷ lists) = map (λ t. atom2 w (term_at terms r) t) (map (term_at terms) ms) ++ moves_by w terms rs lists

-- the roles, base propositions and inputs of each role stand with their texts, all but the roles in printed order
pub record AreContext (terms : List Tree) (roles base : List ℕ) (inputs : List (List ℕ)) (roles_named base_named : List Named)
    (inputs_named : List (List Named)) : Type 0 where
  pub role_texts : All (IsNamed terms) roles_named
  pub roles_are : terms_named roles_named ≡ roles
  pub base_are : AreNamed terms base base_named
  pub inputs_are : AreAllNamed terms inputs inputs_named

-- `true` of each base proposition, and `does` of each role and each of its inputs
abbrev pub atoms_by : List (List ℕ) → List Tree → Keywords → List ℕ → List ℕ → List (List ℕ) → List Atom
atoms_by words terms k roles base inputs =
    map (λ t. atom1 (word_at words k.now) t) (map (term_at terms) base) ++ moves_by (word_at words k.does) terms roles inputs

-- the bytes of the texts of what is named
abbrev pub texts_named : List Named → List (List ℕ)
texts_named ns = map (λ (n : Named). n.text.items) ns

-- the terms and the texts of the context are those of the rules, in order
pub record ShowsContext (rules : List Alternative) (terms : List Tree) (roles base : List Named) (inputs : List (List Named)) : Type 0 where
  pub roles_are : map (term_at terms) (terms_named roles) ≡ role_list rules
  pub base_are : map (term_at terms) (terms_named base) ≡ base_list rules
  pub inputs_are : map (λ (ns : List Named). map (term_at terms) (terms_named ns)) inputs ≡ map (input_list rules) (role_list rules)
  pub role_texts : texts_named roles ≡ map text (role_list rules)
  pub base_texts : texts_named base ≡ map text (base_list rules)
  pub input_texts : map texts_named inputs ≡ map (λ (r : Tree). map text (input_list rules r)) (role_list rules)
