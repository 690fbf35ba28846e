-- This crate's own: what `run` promises does not rest on it.
-- The ranks of a graph's nodes.
use Rattle.std.specs.Prelude.{ℕ, ◌+◌, ◌<◌, ◌≤◌, ◌≡◌, ◌⊎◌, Bool, cond, false, List, length, slice_index, slice_index_or}
use Rattle.util_digraph.specs.declared.graph.Arrow.{Arrow}
use Rattle.util_digraph.specs.Graph.{arrow_at}

-- r is the greatest of a floor and of one more than each rank to which an arrow from p leads
pub record IsRank (arrows : List Arrow) (ranks : List ℕ) (floor p r : ℕ) : Type 0 where
  pub least : floor ≤ r
  pub above : (k : ℕ) → k < length arrows → (arrow_at arrows k).from ≡ p → slice_index ranks (arrow_at arrows k).to < r
  pub attained : (r ≡ floor) ⊎ ((k : ℕ) × (k < length arrows) × ((arrow_at arrows k).from ≡ p) × (r ≡ slice_index ranks (arrow_at arrows k).to + 1))

-- the rank of a node that rests on anything is 1 at least
abbrev pub floor_at : List Bool → ℕ → ℕ
floor_at rests p = cond (slice_index_or rests p false) 1 0

pub record AreRanks (arrows : List Arrow) (rests : List Bool) (ranks : List ℕ) : Type 0 where
  pub length_is : length ranks ≡ length rests
  pub each : (p : ℕ) → p < length rests → IsRank arrows ranks (floor_at rests p) p (slice_index ranks p)
