-- This crate's own: what `run` promises does not rest on it.
-- Where the inputs stand.
use Rattle.std.specs.Prelude.{ℕ, List, length, take, sum, ◌≡◌, ◌+◌, ◌<◌, ◌≤◌, slice_index}
use Rattle.statement.specs.declared.node_name.Name.TheVariants.{Input}
use Rattle.propnet.specs.Network.{Gate}
use Rattle.propnet.specs.Building.{Stands}

-- the number of an input, where the inputs stand behind so many base propositions, by role
abbrev pub input_number : ℕ → List ℕ → ℕ → ℕ → ℕ
input_number base inputs r m = (base + sum (take r inputs)) + m

-- each input stands at its number, and there are as many as the roles have
pub record InputsPlaced (base : ℕ) (inputs : List ℕ) (gates : List Gate) : Type 0 where
  pub places : (n r m : ℕ) → Stands gates n (Input r m) → (n ≡ input_number base inputs r m) × (m < slice_index inputs r)
  pub fit : base + sum inputs ≤ length gates
