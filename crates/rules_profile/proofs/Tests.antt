-- Tests that compute, and what they say.
use Rattle.std.proofs.Common.{Bool, true, false, not, ◌||◌, ◌≡◌, ◌⊎◌, inl, inr, List, [], ◌∷◌, ◌++◌, refl}
use Rattle.statement.specs.Dependence.{IsAmong}

pub or_cases : (a b : Bool) → (a || b) ≡ true → (a ≡ true) ⊎ (b ≡ true)
or_cases true b h = inl refl
or_cases false b h = inr h

pub or_left : (a b : Bool) → a ≡ true → (a || b) ≡ true
or_left true b h = refl
or_left false b h = absurd cc

pub or_right : (a b : Bool) → b ≡ true → (a || b) ≡ true
or_right true b h = refl
or_right false b h = h

pub not_true : (a : Bool) → not a ≡ true → a ≡ false
not_true true h = absurd cc
not_true false h = refl

pub not_false : (a : Bool) → a ≡ false → not a ≡ true
not_false true h = absurd cc
not_false false h = refl

pub decide : (a : Bool) → (a ≡ true) ⊎ (a ≡ false)
decide true = inl refl
decide false = inr refl

pub IsAmong-append : {A : Type 0} (x : A) (xs ys : List A) → IsAmong x (xs ++ ys) → IsAmong x xs ⊎ IsAmong x ys
IsAmong-append x [] ys h = inr h
IsAmong-append x (y ∷ xs) ys (inl e) = inl (inl e)
IsAmong-append x (y ∷ xs) ys (inr h) = elim (IsAmong-append x xs ys h) [ inl k ↦ inl (inr k) | inr k ↦ inr k ]

pub IsAmong-append_left : {A : Type 0} (x : A) (xs ys : List A) → IsAmong x xs → IsAmong x (xs ++ ys)
IsAmong-append_left x [] ys h = absurd h
IsAmong-append_left x (y ∷ xs) ys (inl e) = inl e
IsAmong-append_left x (y ∷ xs) ys (inr h) = inr (IsAmong-append_left x xs ys h)

pub IsAmong-append_right : {A : Type 0} (x : A) (xs ys : List A) → IsAmong x ys → IsAmong x (xs ++ ys)
IsAmong-append_right x [] ys h = h
IsAmong-append_right x (y ∷ xs) ys h = inr (IsAmong-append_right x xs ys h)
