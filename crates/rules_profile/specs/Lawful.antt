-- This crate's own: what `run` promises does not rest on it.
-- What makes a list of items a lawful description, in relations.
use Rattle.std.specs.Prelude.{ℕ, true, false, ◌≡◌, ◌≤◌, List, [], length}
use Rattle.statement.specs.Tree.{Tree, no_trees}
use Rattle.statement.specs.Words.{w_role, w_base, w_input, w_init, w_legal, w_goal, w_terminal}
use Rattle.statement.specs.RuleLimits.{most_items, most_variables, most_alternatives, most_roles}
use Rattle.statement.specs.Clause.{Literal, Alternative, Relation, relation_of, atom_of}
use Rattle.statement.specs.Dependence.{IsAmong, DependsDirectly, Depends, IsAcyclic, IsFixed}
use Rattle.statement.specs.Items.{is_item, item_head, item_alternatives, body_trees, alternatives}
use Rattle.statement.specs.Safety.{variables, variables_in, is_binding, count_different}
use Rattle.statement.specs.Profile.{Use, uses, does_relation, roles}

-- where a word of the language is the relation's name, it has the word's number of arguments and may head an item
abbrev pub MayHead : Relation → Type 0
MayHead p = (u : Use) → IsAmong u uses → p.word ≡ u.word → (p.arity ≡ u.arity) × (u.heads ≡ true)

-- the same in a body
abbrev pub MayStand : Relation → Type 0
MayStand p = (u : Use) → IsAmong u uses → p.word ≡ u.word → (p.arity ≡ u.arity) × (u.bodies ≡ true)

-- each word of the language stands where it may, and a role is a fact without variables
pub record UsesWordsWell (t : Tree) : Type 0 where
  pub head : MayHead (relation_of (item_head t))
  pub body : (rule : Alternative) → IsAmong rule (item_alternatives t) → (l : Literal) → IsAmong l rule.body → MayStand (relation_of (atom_of l))
  pub role : (item_head t).word ≡ w_role → (body_trees t ≡ no_trees) × (variables_in (item_head t).terms ≡ [])

-- a positive literal that is no `distinct` has the variable
pub record IsBound (n : List ℕ) (body : List Literal) : Type 0 where
  pub literal : Literal
  pub in_body : IsAmong literal body
  pub binds : is_binding literal ≡ true
  pub has : IsAmong n (variables_in (atom_of literal).terms)

-- the variables of the head, and of each literal that binds none, are bound
pub record IsSafe (rule : Alternative) : Type 0 where
  pub head : (n : List ℕ) → IsAmong n (variables_in rule.head.terms) → IsBound n rule.body
  pub body : (l : Literal) → IsAmong l rule.body → is_binding l ≡ false → (n : List ℕ) → IsAmong n (variables_in (atom_of l).terms)
      → IsBound n rule.body

-- how much an item may hold
pub record KeepsLimits (t : Tree) : Type 0 where
  pub variables : count_different (variables t) ≤ most_variables
  pub alternatives : length (item_alternatives t) ≤ most_alternatives

abbrev pub relation : List ℕ → ℕ → Relation
relation w n = record { word = w; arity = n }

-- `legal`, `goal` and `terminal` do not rest on the moves that are made, and `base`, `input` and
-- `init` rest on fixed relations alone
pub record RestsWell (rules : List Alternative) : Type 0 where
  pub legal : Depends rules (relation w_legal 2) does_relation → ⊥
  pub goal : Depends rules (relation w_goal 2) does_relation → ⊥
  pub terminal : Depends rules (relation w_terminal 0) does_relation → ⊥
  pub base : (q : Relation) → DependsDirectly rules (relation w_base 1) q → IsFixed rules q
  pub input : (q : Relation) → DependsDirectly rules (relation w_input 2) q → IsFixed rules q
  pub init : (q : Relation) → DependsDirectly rules (relation w_init 1) q → IsFixed rules q

-- the whole
pub record IsLawfulProfile (items : List Tree) : Type 0 where
  pub forms : (t : Tree) → IsAmong t items → is_item t ≡ true
  pub words : (t : Tree) → IsAmong t items → UsesWordsWell t
  pub few_items : length items ≤ most_items
  pub limits : (t : Tree) → IsAmong t items → KeepsLimits t
  pub few_roles : length (roles items) ≤ most_roles
  pub safe : (rule : Alternative) → IsAmong rule (alternatives items) → IsSafe rule
  pub acyclic : IsAcyclic (alternatives items)
  pub rests : RestsWell (alternatives items)
  pub some_role : 1 ≤ length (roles items)
