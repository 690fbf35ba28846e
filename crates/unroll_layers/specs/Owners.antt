-- This crate's own: what `run` promises does not rest on it.
-- Which own atoms rest on which atoms of layers, by the numbers of an instantiation.
use Rattle.std.specs.Prelude.{ℕ, ◌≡◌, Bool, true, false, All, List, [], ◌∷◌, Option, Some, None, slice_index_or}
use Rattle.statement.specs.Clause.{Alternative, Relation, relation_of}
use Rattle.statement.specs.Dependence.{IsAmong, is_among}
use Rattle.statement.specs.Kept.{Kept}
use Rattle.meaning.specs.Listed.{IsAlternativeAt}
use Rattle.unroll_layers.specs.declared.slot.Slot.{Slot}
use Rattle.unroll_layers.specs.Slotted.{IsPlaced, LeadsOn}

-- the alternative of a kept instance is marked
abbrev pub IsOf : List Bool → Kept → Type 0
IsOf marks i = slice_index_or marks i.alternative false ≡ true

-- an instance asks one atom, and no more
abbrev pub AsksOnly : Kept → ℕ → Type 0
AsksOnly i b = i.body ≡ (b, false) ∷ []

-- the own atom that rests on an atom
abbrev pub owner_of : List (Option ℕ) → ℕ → Option ℕ
owner_of owners b = slice_index_or owners b None

-- an atom has an owner where a kept instance of a marked alternative heads that one and asks the atom alone
abbrev pub AreOwners : List Bool → List Kept → List (Option ℕ) → Type 0
AreOwners tops kept owners =
    (b v : ℕ) → owner_of owners b ≡ Some v → (i : Kept) × IsAmong i kept × IsOf tops i × AsksOnly i b × (i.head ≡ v)

-- some kept instance of a relation's alternatives asks one atom, and no more
abbrev pub HasAsking : List Alternative → List Kept → Relation → Type 0
HasAsking rules kept p =
    (i : Kept) × IsAmong i kept × ((rule : Alternative) → IsAlternativeAt 0 rules i.alternative rule → relation_of rule.head ≡ p)
    × ((b : ℕ) × AsksOnly i b)

-- all relations of a list have one
abbrev pub AllAsk : List Alternative → List Kept → List Relation → Type 0
AllAsk rules kept ps = (p : Relation) → is_among p ps ≡ true → HasAsking rules kept p

-- the owner of what a literal asks leads on to a node
abbrev pub LeadsFrom : List (Option ℕ) → List Slot → ℕ → ℕ × Bool → Type 0
LeadsFrom owners slots node r = (v : ℕ) → r.1 ≡ false → owner_of owners r.0 ≡ Some v → LeadsOn slots v node

-- the owners of what an instance asks lead on to the owner of its head
pub record IsSlotted (owners : List (Option ℕ)) (slots : List Slot) (members : List ℕ) (bound : ℕ) (i : Kept) : Type 0 where
  pub node : ℕ
  pub owned : owner_of owners i.head ≡ Some node
  pub placed : IsPlaced slots members bound node
  pub steps : All (LeadsFrom owners slots node) i.body

-- all kept instances of marked alternatives do so
abbrev pub AreSlotted : List Bool → List Kept → List (Option ℕ) → List Slot → List ℕ → ℕ → Type 0
AreSlotted layers kept owners slots members bound =
    (i : Kept) → IsAmong i kept → IsOf layers i → IsSlotted owners slots members bound i

-- by some owners and some slots
pub record HasSlots (tops layers : List Bool) (kept : List Kept) (bound : ℕ) : Type 0 where
  pub owners : List (Option ℕ)
  pub slots : List Slot
  pub members : List ℕ
  pub are_owners : AreOwners tops kept owners
  pub are_slotted : AreSlotted layers kept owners slots members bound
