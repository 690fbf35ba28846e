-- Ranges, filters and folds of numbers.
use Rattle.std.proofs.Common.{◌≡◌, ℕ, ◌+◌, ◌<◌, ◌≤◌, Bool, true, false, cond, not, ◌||◌, List, [], ◌∷◌, ◌++◌, length, zero, suc, refl, sym, ◌∙◌, ap, arith, inl, inr, ◌⊎◌, get_or, ne_eqb, eq-eqb}
use Rattle.std.specs.Prelude.{filter, ◌==◌, max}
use Rattle.std.specs.List.{range_with_len, flat_map}
use Rattle.std.proofs.Math.ListN.{set}
use Rattle.std.proofs.lemmas.Bool.{cases_eq, cases_lt}
use Rattle.std.proofs.lemmas.List.{get_or_past}
use Rattle.statement.specs.GameNumbers.{stands_in}
use Rattle.game_rules.specs.RulePlay.{marked, some_below, greatest_below}

other_than : (a p : ℕ) → (p < a) ⊎ (a + 1 ≤ p) → (a == p) ≡ false
other_than a p (inl l) = ne_eqb a p (λ e. absurd (omega arith))
other_than a p (inr l) = ne_eqb a p (λ e. absurd (omega arith))

one_on : (a p n : ℕ) → (p < a) ⊎ (a + suc n ≤ p) → (p < a + 1) ⊎ (a + 1 + n ≤ p)
one_on a p n (inl l) = inl (omega arith)
one_on a p n (inr l) = inr (omega arith)

here_other : (a p n : ℕ) → (p < a) ⊎ (a + suc n ≤ p) → (p < a) ⊎ (a + 1 ≤ p)
here_other a p n (inl l) = inl l
here_other a p n (inr l) = inr (omega arith)

-- a number outside of a range does not stand in what is filtered of it
pub outside : (f : ℕ → Bool) (a n p : ℕ) → (p < a) ⊎ (a + n ≤ p) → stands_in p (filter f (range_with_len a n)) ≡ false
outside f a zero p h = refl
outside f a (suc n) p h = step (f a) (outside f (a + 1) n p (one_on a p n h)) (other_than a p (here_other a p n h))
  where
    step : (b : Bool) → stands_in p (filter f (range_with_len (a + 1) n)) ≡ false → (a == p) ≡ false
        → stands_in p (cond b (a ∷ filter f (range_with_len (a + 1) n)) (filter f (range_with_len (a + 1) n))) ≡ false
    step true rest other = rw (other, rest) refl
    step false rest other = rest

-- one within does where it passes
pub inside : (f : ℕ → Bool) (a n p : ℕ) → a ≤ p → p < a + n → stands_in p (filter f (range_with_len a n)) ≡ f p
inside f a zero p from to = absurd (omega arith)
inside f a (suc n) p from to =
    elim (cases_eq a p) [
      | inl e ↦ first (f a) refl e
      | inr other ↦ later (f a) (inside f (a + 1) n p (ahead other) (omega arith)) (ne_eqb a p other)
    ]
  where
    ahead : (a ≡ p → ⊥) → a + 1 ≤ p
    ahead other = elim (cases_lt a p) [ inl l ↦ omega arith | inr l ↦ absurd (other (omega arith)) ]

    first : (b : Bool) → f a ≡ b → a ≡ p → stands_in p (cond b (a ∷ filter f (range_with_len (a + 1) n)) (filter f (range_with_len (a + 1) n))) ≡ f p
    first true e same = let here : (a == p) ≡ true = eq-eqb a p same in rw here (sym (ap f (sym same) ∙ e))
    first false e same = outside f (a + 1) n p (inl (omega arith)) ∙ sym (ap f (sym same) ∙ e)

    later : (b : Bool) → stands_in p (filter f (range_with_len (a + 1) n)) ≡ f p → (a == p) ≡ false
        → stands_in p (cond b (a ∷ filter f (range_with_len (a + 1) n)) (filter f (range_with_len (a + 1) n))) ≡ f p
    later true rest other = rw (other, rest) refl
    later false rest other = rest

-- a number stands among the marked ones where it is marked
pub in_marked : (bs : List Bool) (p : ℕ) → stands_in p (marked bs) ≡ get_or bs p false
in_marked bs p = elim (cases_lt p (length bs)) [
  | inl l ↦ inside (λ n. get_or bs n false) 0 (length bs) p (omega arith) (omega arith)
  | inr l ↦ outside (λ n. get_or bs n false) 0 (length bs) p (inr (omega arith)) ∙ sym (get_or_past bs p false l)
]

-- filters that agree on a range give the same
pub filters_agree : (f g : ℕ → Bool) (a n : ℕ) → ((k : ℕ) → a ≤ k → k < a + n → f k ≡ g k)
    → filter f (range_with_len a n) ≡ filter g (range_with_len a n)
filters_agree f g a zero h = refl
filters_agree f g a (suc n) h =
    let here : f a ≡ g a = h a (omega arith) (omega arith) in
    let rest : filter f (range_with_len (a + 1) n) ≡ filter g (range_with_len (a + 1) n) = filters_agree f g (a + 1) n
    (λ k from to. h k (omega arith) (omega arith)) in
    ap (λ (b : Bool). cond b (a ∷ filter f (range_with_len (a + 1) n)) (filter f (range_with_len (a + 1) n))) here
    ∙ ap (λ (xs : List ℕ). cond (g a) (a ∷ xs) xs) rest

pub below_agree : (f g : ℕ → Bool) (n : ℕ) → ((k : ℕ) → k < n → f k ≡ g k) → some_below f n ≡ some_below g n
below_agree f g zero h = refl
below_agree f g (suc n) h =
    let here : f n ≡ g n = h n (omega arith) in
    let rest : some_below f n ≡ some_below g n = below_agree f g n (λ k lt. h k (omega arith)) in
    ap (λ (b : Bool). some_below f n || b) here ∙ ap (λ (b : Bool). b || g n) rest

pub greatest_agree : (f g : ℕ → ℕ) (n : ℕ) → ((k : ℕ) → k < n → f k ≡ g k) → greatest_below f n ≡ greatest_below g n
greatest_agree f g zero h = refl
greatest_agree f g (suc n) h =
    let here : f n ≡ g n = h n (omega arith) in
    let rest : greatest_below f n ≡ greatest_below g n = greatest_agree f g n (λ k lt. h k (omega arith)) in
    ap (λ (b : ℕ). max (greatest_below f n) b) here ∙ ap (λ (b : ℕ). max b (g n)) rest

-- one number more of a range
filter_range_suc : (f : ℕ → Bool) (a n k : ℕ) → a + n ≡ k → filter f (range_with_len a (suc n)) ≡ filter f (range_with_len a n) ++ cond (f k) (k ∷ [])
    []
filter_range_suc f a zero k e = ap (λ (i : ℕ). cond (f i) (i ∷ []) []) (omega arith)
filter_range_suc f a (suc n) k e =
    let rest : filter f (range_with_len (a + 1) (suc n)) ≡ filter f (range_with_len (a + 1) n) ++ cond (f k) (k ∷ []) [] = filter_range_suc f (a + 1)
    n k (omega arith) in
    step (f a) (filter f (range_with_len (a + 1) (suc n))) rest
  where
    step : (b : Bool) (xs : List ℕ) → xs ≡ filter f (range_with_len (a + 1) n) ++ cond (f k) (k ∷ []) []
        → cond b (a ∷ xs) xs ≡ cond b (a ∷ filter f (range_with_len (a + 1) n)) (filter f (range_with_len (a + 1) n)) ++ cond (f k) (k ∷ []) []
    step true xs h = ap (λ (ys : List ℕ). a ∷ ys) h
    step false xs h = h

pub filter_range_more : (f : ℕ → Bool) (n : ℕ) → filter f (range_with_len 0 (n + 1)) ≡ filter f (range_with_len 0 n) ++ cond (f n) (n ∷ []) []
filter_range_more f n = let more : n + 1 ≡ suc n = omega arith in ap (λ (k : ℕ). filter f (range_with_len 0 k)) more
    ∙ filter_range_suc f 0 n n (omega arith)

pub flat_map-set : {A : Type 0} (f : A → List ℕ) (xs : List A) (i : ℕ) (y d : A) → f y ≡ f (get_or xs i d) → flat_map f (set xs i y) ≡ flat_map f xs
flat_map-set f [] i y d same = refl
flat_map-set f (x ∷ xs) zero y d same = ap (λ (ns : List ℕ). ns ++ flat_map f xs) same
flat_map-set f (x ∷ xs) (suc i) y d same = ap (λ (ns : List ℕ). f x ++ ns) (flat_map-set f xs i y d same)
