-- This crate's own: what `run` promises does not rest on it.
-- The nodes that the arrows of a node lead to.
use Rattle.std.specs.Prelude.{ℕ, zero, suc, ◌-◌, ◌<◌, ◌≤◌, ◌≡◌, ◌==◌, cond, List, [], ◌∷◌, length}
use Rattle.util_digraph.specs.declared.graph.Arrow.{Arrow}
use Rattle.util_digraph.specs.Graph.{arrow_at}

-- where the arrows of a node among the first n lead, the last one first
abbrev pub targets_among : List Arrow → ℕ → ℕ → List ℕ
targets_among arrows node zero = []
targets_among arrows node (suc n) =
    cond ((arrow_at arrows n).from == node) ((arrow_at arrows n).to ∷ targets_among arrows node n) (targets_among arrows node n)

-- where all arrows of a node lead, the last one first
abbrev pub successors_of : List Arrow → ℕ → List ℕ
successors_of arrows node = targets_among arrows node (length arrows)

-- the end is 0, or one more than the place of an arrow of the node
pub record IsEndOf (arrows : List Arrow) (node end : ℕ) : Type 0 where
  pub inside : end ≤ length arrows
  pub own : 0 < end → (arrow_at arrows (end - 1)).from ≡ node
