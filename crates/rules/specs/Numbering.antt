-- This crate's own: what `run` promises does not rest on it.
-- Relations by number, and a graph over the numbers that stands for dependence.
use Rattle.std.specs.Prelude.{ℕ, ◌<◌, ◌≡◌, ◌↔◌, Bool, true, false, List, length, slice_index_or}
use Rattle.util_digraph.specs.declared.graph.Arrow.{Arrow}
use Rattle.statement.specs.Clause.{Literal, Alternative, Relation, relation_of, atom_of}
use Rattle.statement.specs.Dependence.{IsAmong, is_distinct, DependsDirectly}
use Rattle.util_digraph.specs.Graph.{arrow_at}

-- an arrow leads from the number of p to the number of q
pub record LeadsBetween (name : ℕ → Relation) (arrows : List Arrow) (p q : Relation) : Type 0 where
  pub place : ℕ
  pub inside : place < length arrows
  pub from : name (arrow_at arrows place).from ≡ p
  pub to : name (arrow_at arrows place).to ≡ q

-- different numbers below n are different relations, and arrows between them are the direct dependences
pub record IsGraphOf (n : ℕ) (name : ℕ → Relation) (arrows : List Arrow) (rules : List Alternative) : Type 0 where
  pub different : (i j : ℕ) → i < n → j < n → name i ≡ name j → i ≡ j
  pub from_in : (k : ℕ) → k < length arrows → (arrow_at arrows k).from < n
  pub to_in : (k : ℕ) → k < length arrows → (arrow_at arrows k).to < n
  pub sound : (k : ℕ) → k < length arrows → DependsDirectly rules (name (arrow_at arrows k).from) (name (arrow_at arrows k).to)
  pub complete : (p q : Relation) → DependsDirectly rules p q → LeadsBetween name arrows p q

-- some alternative of the relation has a literal
pub record HasBody (rules : List Alternative) (p : Relation) : Type 0 where
  pub rule : Alternative
  pub literal : Literal
  pub is_rule : IsAmong rule rules
  pub heads : relation_of rule.head ≡ p
  pub in_body : IsAmong literal rule.body

-- the tests say which relations have a body
abbrev pub AreBodies : ℕ → (ℕ → Relation) → List Alternative → List Bool → Type 0
AreBodies n name rules rests = (i : ℕ) → i < n → (slice_index_or rests i false ≡ true) ↔ HasBody rules (name i)

-- the literal stands in the body of one of the alternatives
pub record IsInBodies (rules : List Alternative) (q : Relation) : Type 0 where
  pub rule : Alternative
  pub literal : Literal
  pub is_rule : IsAmong rule rules
  pub in_body : IsAmong literal rule.body
  pub names : relation_of (atom_of literal) ≡ q
  pub not_distinct : is_distinct q ≡ false

-- the numbers of the relations in the bodies of some alternatives, but for `distinct`
pub record AreBodyNumbers (n : ℕ) (name : ℕ → Relation) (rules : List Alternative) (body : List ℕ) : Type 0 where
  pub inside : (i : ℕ) → i < length body → slice_index_or body i 0 < n
  pub sound : (i : ℕ) → i < length body → IsInBodies rules (name (slice_index_or body i 0))
  pub complete : (q : Relation) → IsInBodies rules q → (i : ℕ) × (i < length body) × (name (slice_index_or body i 0) ≡ q)

-- the tests of the numbers are the test of their relations
abbrev pub AreTests : ℕ → (ℕ → Relation) → (Relation → Bool) → List Bool → Type 0
AreTests n name test goals = (i : ℕ) → i < n → slice_index_or goals i false ≡ test (name i)

-- some number of the list is marked
pub record IsAnyMarked (marks : List Bool) (body : List ℕ) : Type 0 where
  pub place : ℕ
  pub inside : place < length body
  pub marked : slice_index_or marks (slice_index_or body place 0) false ≡ true
