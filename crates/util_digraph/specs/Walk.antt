-- This crate's own: what `run` promises does not rest on it.
-- How far a walk through a graph has come.
use Rattle.std.specs.Prelude.{ℕ, ◌+◌, ◌-◌, ◌<◌, ◌≤◌, ◌≡◌, Bool, true, false, List, length, slice_index, slice_index_or}
use Rattle.util_digraph.specs.declared.graph.Arrow.{Arrow}
use Rattle.util_digraph.specs.Graph.{arrow_at, Leads, Stands}

-- The first m nodes were seen. What was seen and is not done is pending, in a chain of arrows. Arrows
-- behind the ends lead to what is done, and what is done is listed behind all that it leads to.
pub record Walking (arrows : List Arrow) (n m : ℕ) (seen done : List Bool) (ends pending order : List ℕ) : Type 0 where
  pub seen_are : length seen ≡ n
  pub done_are : length done ≡ n
  pub ends_are : length ends ≡ n
  pub end_in : (p : ℕ) → p < n → slice_index ends p ≤ length arrows
  pub end_own : (p : ℕ) → p < n → 0 < slice_index ends p → (arrow_at arrows (slice_index ends p - 1)).from ≡ p
  pub pending_in : (i : ℕ) → i < length pending → slice_index pending i < n
  pub chain : (i : ℕ) → i + 1 < length pending → Leads arrows (slice_index pending i) (slice_index pending (i + 1))
  pub waiting : (p : ℕ) → p < n → slice_index_or seen p false ≡ true → slice_index_or done p false ≡ false → Stands pending p
  pub passed : (k : ℕ) → k < length arrows → slice_index ends (arrow_at arrows k).from ≤ k → slice_index_or done (arrow_at arrows k).to false ≡ true
  pub started : (p : ℕ) → p < m → slice_index_or seen p false ≡ true
  pub listed : (p : ℕ) → p < n → slice_index_or done p false ≡ true → Stands order p
  pub inside : (j : ℕ) → j < length order → slice_index order j < n
  pub back : (j k : ℕ) → j < length order → k < length arrows → (arrow_at arrows k).from ≡ slice_index order j
      → (i : ℕ) × (i < j) × (slice_index order i ≡ (arrow_at arrows k).to)
