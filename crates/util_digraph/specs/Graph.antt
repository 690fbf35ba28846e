-- This crate's own: what `run` promises does not rest on it.
-- Directed graphs: nodes are the numbers below some number, and arrows lead from node to node.
use Rattle.std.specs.Prelude.{ℕ, zero, suc, ◌-◌, ◌<◌, ◌≤◌, ◌≡◌, ◌≢◌, ◌⊎◌, ◌↔◌, Bool, true, false, List, length, slice_index, slice_index_or, Contains}
use Rattle.util_digraph.specs.declared.graph.Arrow.{Arrow}

abbrev pub arrow_at : List Arrow → ℕ → Arrow
arrow_at arrows k = slice_index_or arrows k (record { from = 0; to = 0 })

-- an arrow leads from p to q
pub record Leads (arrows : List Arrow) (p q : ℕ) : Type 0 where
  pub place : ℕ
  pub inside : place < length arrows
  pub from : (arrow_at arrows place).from ≡ p
  pub to : (arrow_at arrows place).to ≡ q

-- a chain of n further arrows
abbrev pub ReachesIn : List Arrow → ℕ → ℕ → ℕ → Type 0
ReachesIn arrows zero p q = Leads arrows p q
ReachesIn arrows (suc n) p q = (r : ℕ) × Leads arrows p r × ReachesIn arrows n r q

-- the least transitive relation that has every arrow
abbrev pub Reaches : List Arrow → ℕ → ℕ → Type 0
Reaches arrows p q = (n : ℕ) × ReachesIn arrows n p q

-- How arrows are found: for a node, and for an arrow, the end of the shortest beginning of the
-- list that has all arrows from that node, or all earlier arrows from where that arrow begins.
pub record AreLinked (arrows : List Arrow) (ends before : List ℕ) : Type 0 where
  pub same_length : length before ≡ length arrows
  pub from_in : (k : ℕ) → k < length arrows → (arrow_at arrows k).from < length ends
  pub to_in : (k : ℕ) → k < length arrows → (arrow_at arrows k).to < length ends
  pub end_in : (p : ℕ) → p < length ends → slice_index ends p ≤ length arrows
  pub end_own : (p : ℕ) → p < length ends → 0 < slice_index ends p → (arrow_at arrows (slice_index ends p - 1)).from ≡ p
  pub end_gap : (p k : ℕ) → p < length ends → slice_index ends p ≤ k → k < length arrows → (arrow_at arrows k).from ≢ p
  pub before_in : (i : ℕ) → i < length arrows → slice_index before i ≤ i
  pub before_own : (i : ℕ) → i < length arrows → 0 < slice_index before i
      → (arrow_at arrows (slice_index before i - 1)).from ≡ (arrow_at arrows i).from
  pub before_gap : (i k : ℕ) → i < length arrows → slice_index before i ≤ k → k < i → (arrow_at arrows k).from ≢ (arrow_at arrows i).from

-- p is one of the starts, or some start reaches it
pub record IsReachedFrom (arrows : List Arrow) (starts : List ℕ) (p : ℕ) : Type 0 where
  pub start : ℕ
  pub is_start : Contains starts start
  pub leads : (start ≡ p) ⊎ Reaches arrows start p

-- the marks of n nodes say which are reached from the starts
pub record ReachedMarked (arrows : List Arrow) (starts : List ℕ) (n : ℕ) (marks : List Bool) : Type 0 where
  pub length_is : length marks ≡ n
  pub exact : (p : ℕ) → p < n → (slice_index_or marks p false ≡ true) ↔ IsReachedFrom arrows starts p

-- some node reaches itself
abbrev pub IsCyclic : List Arrow → Type 0
IsCyclic arrows = (p : ℕ) × Reaches arrows p p

-- the number stands somewhere in the list
abbrev pub Stands : List ℕ → ℕ → Type 0
Stands xs p = (i : ℕ) × (i < length xs) × (slice_index xs i ≡ p)

-- all nodes are listed, and each arrow leads back: from where a node stands to a node before it
pub record IsOrder (arrows : List Arrow) (n : ℕ) (order : List ℕ) : Type 0 where
  pub inside : (j : ℕ) → j < length order → slice_index order j < n
  pub all : (p : ℕ) → p < n → Stands order p
  pub back : (j k : ℕ) → j < length order → k < length arrows → (arrow_at arrows k).from ≡ slice_index order j
      → (i : ℕ) × (i < j) × (slice_index order i ≡ (arrow_at arrows k).to)

abbrev pub turned_arrow : Arrow → Arrow
turned_arrow arrow = record { from = arrow.to; to = arrow.from }

-- p is a goal, or reaches one
pub record IsLeading (arrows : List Arrow) (goals : List Bool) (p : ℕ) : Type 0 where
  pub goal : ℕ
  pub is_goal : slice_index_or goals goal false ≡ true
  pub leads : (p ≡ goal) ⊎ Reaches arrows p goal

-- the marks say which nodes are goals or reach one
pub record AreLeading (arrows : List Arrow) (goals marks : List Bool) : Type 0 where
  pub length_is : length marks ≡ length goals
  pub exact : (p : ℕ) → p < length goals → (slice_index_or marks p false ≡ true) ↔ IsLeading arrows goals p

-- the places that are marked, and no others
pub record ArePlaces (marks : List Bool) (places : List ℕ) : Type 0 where
  pub sound : (i : ℕ) → i < length places → slice_index_or marks (slice_index places i) false ≡ true
  pub complete : (p : ℕ) → slice_index_or marks p false ≡ true → Stands places p
