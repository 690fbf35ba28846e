-- This crate's own: what `run` promises does not rest on it.
-- The joint moves of a list.
use Rattle.std.specs.Prelude.{ℕ, List, [], Option, Some, None, slice_get}
use Rattle.smallvec.specs.SmallVec.{SmallVec}

-- the moves of a joint move, one of each role
abbrev pub moves_of : Option (SmallVec ℕ) → List ℕ
moves_of None = []
moves_of (Some joint) = joint.items

-- the joint move with a number
abbrev pub joint_at : List (SmallVec ℕ) → ℕ → List ℕ
joint_at joints k = moves_of (slice_get joints k)
