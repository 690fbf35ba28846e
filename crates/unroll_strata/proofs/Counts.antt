-- Of two tests of which the second passes whatever the first does, it passes as many of a list, and more where it passes one that the first does not.
use Rattle.std.proofs.Common.{◌≤◌, ◌<◌, Bool, true, false, cond, ◌≡◌, inl, inr, List, [], ◌∷◌, length, filter, refl, sym, ap, ◌∙◌, arith}
use Rattle.statement.specs.Dependence.{IsAmong}

module _ {A : Type 0} (f g : A → Bool) (on : (x : A) → f x ≡ true → g x ≡ true) where
  pub as_many : (xs : List A) → length (filter f xs) ≤ length (filter g xs)
  as_many [] = omega arith
  as_many (x ∷ xs) = go (f x) (g x) (on x) (as_many xs)
    where
      go : (a b : Bool) → (a ≡ true → b ≡ true) → length (filter f xs) ≤ length (filter g xs)
          → length (cond a (x ∷ filter f xs) (filter f xs)) ≤ length (cond b (x ∷ filter g xs) (filter g xs))
      go true true h le = omega (arith, le)
      go true false h le = let e = h refl in let bad : ⊥ = cc in absurd bad
      go false true h le = omega (arith, le)
      go false false h le = le

  pub more : (y : A) → f y ≡ false → g y ≡ true → (xs : List A) → IsAmong y xs → length (filter f xs) < length (filter g xs)
  more y fails passes [] a = absurd a
  more y fails passes (x ∷ xs) (inl e) = go (f x) (g x) (ap f (sym e) ∙ fails) (ap g (sym e) ∙ passes) (as_many xs)
    where
      go : (a b : Bool) → a ≡ false → b ≡ true → length (filter f xs) ≤ length (filter g xs)
          → length (cond a (x ∷ filter f xs) (filter f xs)) < length (cond b (x ∷ filter g xs) (filter g xs))
      go true b h k le = let bad : ⊥ = cc in absurd bad
      go false true h k le = omega (arith, le)
      go false false h k le = let bad : ⊥ = cc in absurd bad
  more y fails passes (x ∷ xs) (inr a) = go (f x) (g x) (on x) (more y fails passes xs a)
    where
      go : (a b : Bool) → (a ≡ true → b ≡ true) → length (filter f xs) < length (filter g xs)
          → length (cond a (x ∷ filter f xs) (filter f xs)) < length (cond b (x ∷ filter g xs) (filter g xs))
      go true true h lt = omega (arith, lt)
      go true false h lt = let e = h refl in let bad : ⊥ = cc in absurd bad
      go false true h lt = omega (arith, lt)
      go false false h lt = lt
