-- The last of a list.
use Rattle.std.proofs.Common.{ℕ, zero, suc, Bool, false, ◌≡◌, ◌-◌, List, [], ◌∷◌, length, ap, arith}
use Rattle.std.specs.Prelude.{Option, Some, None, map, slice_get}
use Rattle.statement.specs.Clause.{Relation, relation_eq}
use Rattle.diagnose_explain.specs.Ways.{ends_with}

abbrev is_there : {A : Type 0} → (A → Relation) → Relation → Option A → Bool
is_there f q (Some x) = relation_eq (f x) q
is_there f q None = false

ends_there : {A : Type 0} (f : A → Relation) (q : Relation) (xs : List A) (n : ℕ) (x : A) → length xs ≡ suc n → slice_get xs n ≡ Some x
    → ends_with q (map f xs) ≡ relation_eq (f x) q
ends_there f q [] n x size h = absurd (omega (arith, size))
ends_there f q (y ∷ []) zero x size h = ap (is_there f q) h
ends_there f q (y ∷ []) (suc n) x size h = absurd (omega (arith, size))
ends_there f q (y ∷ z ∷ zs) zero x size h = absurd (omega (arith, size))
ends_there f q (y ∷ z ∷ zs) (suc n) x size h = ends_there f q (z ∷ zs) n x (omega (arith, size)) h

-- the last is the one at the length less one
pub ends_at : {A : Type 0} (f : A → Relation) (q : Relation) (xs : List A) (x : A) → slice_get xs (length xs - 1) ≡ Some x
    → ends_with q (map f xs) ≡ relation_eq (f x) q
ends_at f q [] x h = absurd cc
ends_at f q (y ∷ ys) x h = ends_there f q (y ∷ ys) (length (y ∷ ys) - 1) x (omega arith) h
