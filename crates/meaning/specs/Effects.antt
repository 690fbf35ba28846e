-- This crate's own: what `run` promises does not rest on it.
-- Heads that have no effect on play, and what keeps within the limits.
use Rattle.std.specs.Prelude.{◌≡◌, ◌≤◌, ◌⊎◌, List, length}
use Rattle.statement.specs.Tree.{Tree, text}
use Rattle.statement.specs.Words.{w_init, w_next, w_legal}
use Rattle.statement.specs.Clause.{Atom, Alternative, tree_of}
use Rattle.statement.specs.Dependence.{IsAmong}
use Rattle.statement.specs.Meaning.{atom1, atom2, IsBase, IsInput}
use Rattle.statement.specs.Listing.{Instance, listing, role_list, base_list}
use Rattle.statement.specs.Limits.{count_inputs}
use Rattle.statement.specs.Most.{Limits}

-- `init` or `next` outside `Base`, or `legal` of what is no input of a role
abbrev pub HasNoEffect : List Alternative → Atom → Type 0
HasNoEffect rules x =
    ((p : Tree) × ((x ≡ atom1 w_init p) ⊎ (x ≡ atom1 w_next p)) × (IsBase rules p → ⊥))
    ⊎ ((r : Tree) × (m : Tree) × (x ≡ atom2 w_legal r m) × (IsInput rules r m → ⊥))

-- no limit is passed
pub record IsWithinLimits (most : Limits) (rules : List Alternative) : Type 0 where
  pub instances : length (listing rules).kept ≤ most.instances
  pub heads : (i : Instance) → IsAmong i (listing rules).kept → length (text (tree_of i.head)) ≤ most.text
  pub base : length (base_list rules) ≤ most.base
  pub inputs : count_inputs rules (role_list rules) ≤ most.inputs
