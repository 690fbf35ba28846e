-- Lists in order, and the place of a member.
use Rattle.std.specs.Prelude.{ℕ, zero, suc, Bool, cond, List, [], ◌∷◌, ⊤}
use Rattle.statement.specs.Dependence.{IsAmong}

-- each member stands before all later ones
abbrev pub AreInOrder : {A : Type 0} → (A → A → Type 0) → List A → Type 0
AreInOrder Before [] = ⊤
AreInOrder {A} Before (x ∷ xs) = ((y : A) → IsAmong y xs → Before x y) × AreInOrder Before xs

-- the place of the first member that passes a test, from 0
abbrev pub first_place : {A : Type 0} → (A → Bool) → List A → ℕ
first_place test [] = zero
first_place test (x ∷ xs) = cond (test x) zero (suc (first_place test xs))
