-- What stands at a place of a list, what is left behind it, and the place that a search gives.
use Rattle.std.proofs.Common.{
  ℕ,
  zero,
  suc,
  ◌<◌,
  ◌≤◌,
  ◌+◌,
  Bool,
  true,
  false,
  cond,
  ◌||◌,
  ◌≡◌,
  List,
  [],
  ◌∷◌,
  length,
  take,
  drop,
  drop-cons,
  get_or,
  refl,
  sym,
  ap,
  subst,
  ◌∙◌,
  arith,
  Some,
  None,
}
use Rattle.std.specs.Prelude.{position}
use Rattle.std.specs.List.{list_any, position_from}
use Rattle.std.proofs.lemmas.Iterator.Adapters.{position_from-zero}
use Rattle.std.proofs.lemmas.List.{drop_all}
use Rattle.statement.specs.Printed.{first_place}

-- what stands at a place, and behind it
pub at_place : {A : Type 0} (all xs : List A) (i : ℕ) (a : A) → xs ≡ all → i < length xs → a ≡ get_or xs i a → drop i all ≡ a ∷ drop (i + 1) all
at_place {A} all xs i a e h k =
    let n : suc i ≡ i + 1 = omega arith in
    subst (λ (ys : List A). drop i ys ≡ a ∷ drop (i + 1) ys) e
    (drop-cons xs i a h ∙ ap (λ (x : A). x ∷ drop (suc i) xs) (sym k) ∙ ap (λ (j : ℕ). a ∷ drop j xs) n)

pub inside : {A : Type 0} (all xs : List A) (i : ℕ) → xs ≡ all → i < length xs → i < length all
inside {A} all xs i e h = subst (λ (ys : List A). i < length ys) e h

-- nothing stands behind the end
pub at_end : {A : Type 0} (all xs : List A) (i : ℕ) → xs ≡ all → length xs ≤ i → drop i all ≡ []
at_end {A} all xs i e h = drop_all i all (subst (λ (ys : List A). length ys ≤ i) e h)

pub take_length : {A : Type 0} (n : ℕ) (xs : List A) → n ≤ length xs → length (take n xs) ≡ n
take_length zero xs h = refl
take_length (suc n) [] h = absurd (let bad : ⊥ = omega (arith, h) in bad)
take_length (suc n) (x ∷ xs) h = ap (λ (m : ℕ). suc m) (take_length n xs (omega (arith, h)))

-- The place that a search gives.

place_from : (test : ℕ → Bool) (i : ℕ) (ns : List ℕ) → position_from test i ns ≡ cond (list_any test ns) (Some (i + first_place test ns)) None
place_from test i [] = refl
place_from test i (n ∷ ns) = go (test n) (place_from test (i + 1) ns)
  where
    go : (b : Bool) → position_from test (i + 1) ns ≡ cond (list_any test ns) (Some (i + 1 + first_place test ns)) None
        → cond b (Some i) (position_from test (i + 1) ns) ≡ cond (b || list_any test ns) (Some (i + cond b zero (suc (first_place test ns)))) None
    go true e = ap Some (omega arith)
    go false e = e ∙ ap (λ (k : ℕ). cond (list_any test ns) (Some k) None) (omega arith)

place_within : (test : ℕ → Bool) (ns : List ℕ) → list_any test ns ≡ true → first_place test ns < length ns
place_within test [] e = absurd cc
place_within test (n ∷ ns) e = go (test n) e (place_within test ns)
  where
    go : (b : Bool) → (b || list_any test ns) ≡ true → (list_any test ns ≡ true → first_place test ns < length ns)
        → cond b zero (suc (first_place test ns)) < suc (length ns)
    go true h k = omega arith
    go false h k = let l = k h in omega (arith, l)

pub none_place : (test : ℕ → Bool) (ns : List ℕ) → list_any test ns ≡ false → first_place test ns ≡ length ns
none_place test [] e = refl
none_place test (n ∷ ns) e = go (test n) e (none_place test ns)
  where
    go : (b : Bool) → (b || list_any test ns) ≡ false → (list_any test ns ≡ false → first_place test ns ≡ length ns)
        → cond b zero (suc (first_place test ns)) ≡ suc (length ns)
    go true h k = absurd cc
    go false h k = ap suc (k h)

pub found_place : (test : ℕ → Bool) (ns : List ℕ) (k : ℕ) → k ≡ first_place test ns → k < length ns → Some k ≡ position test ns
found_place test ns k e h = go (list_any test ns) refl ∙ sym (position_from-zero test ns ∙ place_from test 0 ns)
  where
    go : (b : Bool) → list_any test ns ≡ b → Some k ≡ cond b (Some (0 + first_place test ns)) None
    go true f = ap Some (omega (arith, e))
    go false f = let g = none_place test ns f in absurd (let bad : ⊥ = omega (arith, e, g, h) in bad)

pub missed_place : (test : ℕ → Bool) (ns : List ℕ) (k : ℕ) → k ≡ first_place test ns → length ns ≤ k → None ≡ position test ns
missed_place test ns k e h = go (list_any test ns) refl ∙ sym (position_from-zero test ns ∙ place_from test 0 ns)
  where
    go : (b : Bool) → list_any test ns ≡ b → None ≡ cond b (Some (0 + first_place test ns)) None
    go true f = let g = place_within test ns f in absurd (let bad : ⊥ = omega (arith, e, g, h) in bad)
    go false f = refl
