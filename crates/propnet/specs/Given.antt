-- This crate's own: what `run` promises does not rest on it.
-- The words of the inputs for many joint moves.
use Rattle.std.specs.Prelude.{ℕ, List, length, ◌≡◌, ◌<◌, ⊤, slice_index}
use Rattle.smallvec.specs.SmallVec.{SmallVec}
use Rattle.statement.specs.declared.node_name.Name.{Name}
use Rattle.statement.specs.declared.node_name.Name.TheVariants.{Base, Input, Not, And, View, Transition}
use Rattle.propnet.specs.Values.{lane}
use Rattle.propnet.specs.Network.{given}
use Rattle.game.specs.Joints.{joint_at}
use Rattle.propnet.specs.Placing.{input_number}

-- the words of the inputs say which joint moves give them
abbrev pub AreGiven : ℕ → List ℕ → List (SmallVec ℕ) → List ℕ → Type 0
AreGiven base inputs joints words = (r m k : ℕ) → m < slice_index inputs r → k < length joints
    → lane words k (input_number base inputs r m) ≡ given (joint_at joints k) r m

-- x is 1 when the joint move gives the input, where the node is one
abbrev pub IsGivenAs : Name → List ℕ → ℕ → Type 0
IsGivenAs (Base p) joint x = ⊤
IsGivenAs (Input r m) joint x = x ≡ given joint r m
IsGivenAs (Not a) joint x = ⊤
IsGivenAs (And i) joint x = ⊤
IsGivenAs (View a) joint x = ⊤
IsGivenAs (Transition p) joint x = ⊤
