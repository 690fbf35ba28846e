-- One of some relations.
use Rattle.std.proofs.Common.{ℕ, zero, suc, Bool, true, false, ◌≡◌, ◌<◌, List, [], ◌∷◌, map, length, get_or, refl, sym, ap, inl, inr, arith}
use Rattle.std.specs.Prelude.{◌&&◌}
use Rattle.statement.specs.Clause.{Relation}
use Rattle.statement.specs.Dependence.{IsAmong}

pub among_at : {R : Type 0} (view : R → Relation) (rs : List R) (i : ℕ) (r d : R) → i < length rs → r ≡ get_or rs i d → IsAmong (view r) (map view rs)
among_at view [] i r d h is = absurd (omega (arith, h))
among_at view (s ∷ rs) zero r d h is = inl (ap view is)
among_at view (s ∷ rs) (suc i) r d h is = inr (among_at view rs i r d (omega (arith, h)) is)

pub and_first : (a b : Bool) → true ≡ (a && b) → a ≡ true
and_first true b e = refl
and_first false b e = sym e

pub and_then : (a b : Bool) → true ≡ (a && b) → true ≡ b
and_then true b e = e
and_then false b e = absurd cc

pub and_last : (a b : Bool) → true ≡ (a && b) → b ≡ true
and_last true b e = sym e
and_last false b e = absurd cc
