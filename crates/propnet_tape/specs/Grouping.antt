-- This crate's own: what `run` promises does not rest on it.
-- Groups of given bits of which exactly one is 1.
use Rattle.std.specs.Prelude.{ℕ, Bool, ◌≡◌, ◌<◌, ◌≤◌, All, List, length, slice_index}
use Rattle.propnet.specs.declared.net.Net.{Net}
use Rattle.propnet_tape.specs.declared.builder.Group.{Group}
use Rattle.propnet_tape.specs.Building.{IsOneOf, AreOneOf}
use Rattle.propnet_tape.specs.Tapes.{AreSources, IsJointOf}

-- the bit of this number is a given word, and it is that of input n
pub record IsGivenInput (words : List ℕ) (bit n : ℕ) : Type 0 where
  pub within : bit < length words
  pub is : slice_index words bit ≡ n

-- where a joint move has an input of each role, one of the bits is 1
pub record IsGroupOf (net : Net) (words : List ℕ) (g : Group) : Type 0 where
  pub within : g.to ≤ length words
  pub one : (state : ℕ → ℕ) (joint : List ℕ) (w : ℕ → Bool) → IsJointOf net joint → AreSources net state joint w
      → IsOneOf (λ i. w (slice_index words i)) g.from g.to

-- that is so of each group
pub record AreGroups (net : Net) (words : List ℕ) (groups : List Group) : Type 0 where
  pub within : All (λ (g : Group). g.to ≤ length words) groups
  pub one : (state : ℕ → ℕ) (joint : List ℕ) (w : ℕ → Bool) → IsJointOf net joint → AreSources net state joint w
      → AreOneOf groups (λ i. w (slice_index words i))
