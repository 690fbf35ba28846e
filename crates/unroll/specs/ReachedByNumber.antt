-- This crate's own: what `run` promises does not rest on it.
-- The base propositions that play comes to, by the numbers of an instantiation.
use Rattle.std.specs.Prelude.{ℕ, zero, suc, ◌≡◌, Bool, false, List, slice_index_or}
use Rattle.statement.specs.Dependence.{IsAmong}
use Rattle.statement.specs.Kept.{Kept}
use Rattle.statement.specs.declared.kind.Kind.{Kind}
use Rattle.statement.specs.declared.kind.Kind.TheVariants.{Now, Next, Other}

-- where the atom of a number stands in play; `Other` where there is none
abbrev pub kind_in : List Kind → ℕ → Kind
kind_in kinds atom = slice_index_or kinds atom Other

-- the base proposition is in the state after so many turns or fewer: a kept instance brings it there by base propositions alone that are
-- there before
abbrev pub IsReachedIn : List Kind → List Kept → ℕ → ℕ → Type 0
IsReachedIn kinds kept zero k = ⊥
IsReachedIn kinds kept (suc n) k =
    (i : Kept) × IsAmong i kept × (kind_in kinds i.head ≡ Next k)
    × ((r : ℕ × Bool) → IsAmong r i.body → (r.1 ≡ false) × ((j : ℕ) × (kind_in kinds r.0 ≡ Now j) × IsReachedIn kinds kept n j))

-- it is in the state after some number of turns
abbrev pub IsReachedSometime : List Kind → List Kept → ℕ → Type 0
IsReachedSometime kinds kept k = (n : ℕ) × IsReachedIn kinds kept n k
