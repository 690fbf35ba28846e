-- This crate's own: what `run` promises does not rest on it.
-- Slots of nodes, such that the nodes of a way have different ones.
use Rattle.std.specs.Prelude.{ℕ, ◌+◌, ◌-◌, ◌<◌, ◌≤◌, ◌≡◌, ◌⊎◌, List, [], ◌∷◌, ⊤, slice_index, slice_index_or}
use Rattle.unroll_layers.specs.declared.slot.Slot.{Slot}

-- the slot of a node that is not there
abbrev pub no_slot : Slot
no_slot = record { place = 0; first = 0; floor = 0; ceiling = 0 }

abbrev pub slot_at : List Slot → ℕ → Slot
slot_at slots v = slice_index_or slots v no_slot

-- the number of a slot
abbrev pub number_in : Slot → ℕ
number_in s = s.floor + (s.place - s.first)

-- a node stands at a place of its own, and its slot is below its ceiling, which is below a bound
pub record IsPlaced (slots : List Slot) (members : List ℕ) (bound v : ℕ) : Type 0 where
  pub order : (slot_at slots v).first ≤ (slot_at slots v).place
  pub member : slice_index members (slot_at slots v).place ≡ v
  pub below : number_in (slot_at slots v) < (slot_at slots v).ceiling
  pub within : (slot_at slots v).ceiling < bound

-- slots of one group
pub record AreTogether (s t : Slot) : Type 0 where
  pub first : s.first ≡ t.first
  pub floor : s.floor ≡ t.floor
  pub ceiling : s.ceiling ≡ t.ceiling

-- both nodes are of one group, or the second has its floor where the first has its ceiling, or above it
abbrev pub LeadsOn : List Slot → ℕ → ℕ → Type 0
LeadsOn slots v w = AreTogether (slot_at slots v) (slot_at slots w) ⊎ ((slot_at slots v).ceiling ≤ (slot_at slots w).floor)

-- the last node of a way, if it has one, leads on to a node
abbrev pub LeadsBehind : List Slot → List ℕ → ℕ → Type 0
LeadsBehind slots [] w = ⊤
LeadsBehind slots (v ∷ vs) w = LeadsOn slots v w

-- a way, the last of its nodes first
abbrev pub IsChain : List Slot → List ℕ → ℕ → List ℕ → Type 0
IsChain slots members bound [] = ⊤
IsChain slots members bound (w ∷ vs) = IsPlaced slots members bound w × (LeadsBehind slots vs w × IsChain slots members bound vs)
