-- Lists that are made number by number, and the same things in another order.
use Rattle.std.proofs.Common.{◌≡◌, ℕ, zero, suc, ◌+◌, ◌<◌, ◌≤◌, Bool, true, false, cond, ◌&&◌, ◌⊎◌, inl, inr, List, [], ◌∷◌, ◌++◌, map, refl, sym, ◌∙◌, ap, subst, arith, ne_eqb, eq-eqb}
use Rattle.std.specs.Prelude.{◌==◌, IsPermutation}
use Rattle.std.specs.List.{flat_map, range_with_len}
use Rattle.std.proofs.lemmas.Bool.{cases_eq}
use Rattle.std.proofs.lemmas.List.{append_assoc, map-append}
use Rattle.std.proofs.lemmas.List.Sorted.{IsPermutation-refl, IsPermutation-sym, IsPermutation-trans, IsPermutation-append_left, IsPermutation-append_right, IsPermutation-append_comm, IsPermutation-middle}

pub map_twice : {A B C : Type 0} (f : B → C) (g : A → B) (xs : List A) → map f (map g xs) ≡ map (λ x. f (g x)) xs
map_twice f g [] = refl
map_twice f g (x ∷ xs) = ap (λ l. f (g x) ∷ l) (map_twice f g xs)

pub map_flat : {A B C : Type 0} (f : B → C) (g : A → List B) (xs : List A) → map f (flat_map g xs) ≡ flat_map (λ x. map f (g x)) xs
map_flat f g [] = refl
map_flat f g (x ∷ xs) = map-append f (g x) (flat_map g xs) ∙ ap (λ l. map f (g x) ++ l) (map_flat f g xs)

-- the same at each number that is gone through
pub flat_same : {A : Type 0} (f g : ℕ → List A) (s n : ℕ) → ((i : ℕ) → s ≤ i → i < s + n → f i ≡ g i)
    → flat_map f (range_with_len s n) ≡ flat_map g (range_with_len s n)
flat_same f g s zero e = refl
flat_same f g s (suc n) e =
    let here = e s (omega arith) (omega arith) in
    let rest = flat_same f g (s + 1) n (λ i l m. e i (omega arith) (omega arith)) in
    cc

-- where each number gives two lists, all first ones and behind them all second ones are the same in another order
pub in_two : {A B : Type 0} (f g : A → List B) (xs : List A) → IsPermutation (flat_map f xs ++ flat_map g xs) (flat_map (λ x. f x ++ g x) xs)
in_two f g [] = IsPermutation-refl []
in_two f g (x ∷ xs) =
    let fs = flat_map f xs in
    let gs = flat_map g xs in
    let turn : IsPermutation (fs ++ (g x ++ gs)) (g x ++ (fs ++ gs)) =
    subst (λ l. IsPermutation (fs ++ (g x ++ gs)) l) (append_assoc (g x) fs gs)
    (subst (λ l. IsPermutation l ((g x ++ fs) ++ gs)) (append_assoc fs (g x) gs)
    (IsPermutation-append_left gs (fs ++ g x) (g x ++ fs) (IsPermutation-append_comm fs (g x)))) in
    let rest : IsPermutation (g x ++ (fs ++ gs)) (g x ++ flat_map (λ y. f y ++ g y) xs) = IsPermutation-append_right (g x) _ _ (in_two f g xs) in
    subst (λ l. IsPermutation l ((f x ++ g x) ++ flat_map (λ y. f y ++ g y) xs)) (sym (append_assoc (f x) fs (g x ++ gs)))
    (subst (λ l. IsPermutation (f x ++ (fs ++ (g x ++ gs))) l) (sym (append_assoc (f x) (g x) (flat_map (λ y. f y ++ g y) xs)))
    (IsPermutation-append_right (f x) _ _ (IsPermutation-trans _ _ _ turn rest)))

pub in_three : {A B : Type 0} (f g h : A → List B) (xs : List A)
    → IsPermutation (flat_map f xs ++ (flat_map g xs ++ flat_map h xs)) (flat_map (λ x. f x ++ (g x ++ h x)) xs)
in_three f g h xs =
    IsPermutation-trans _ _ _ (IsPermutation-append_right (flat_map f xs) _ _ (in_two g h xs)) (in_two f (λ x. g x ++ h x) xs)

-- one thing more at one number
at_one : {A : Type 0} (x : A) (h : ℕ) (f : ℕ → List A) (s n : ℕ) → s ≤ h → h < s + n
    → IsPermutation (x ∷ flat_map f (range_with_len s n)) (flat_map (λ a. cond (h == a) (x ∷ f a) (f a)) (range_with_len s n))
at_one x h f s zero l m = absurd (omega arith)
at_one {A} x h f s (suc n) l m = go (cases_eq h s) (λ p q. at_one x h f (s + 1) n p q)
  where
    more : ℕ → List A
    more a = cond (h == a) (x ∷ f a) (f a)

    go : (h ≡ s) ⊎ (h ≡ s → ⊥)
        → (s + 1 ≤ h → h < s + 1 + n → IsPermutation (x ∷ flat_map f (range_with_len (s + 1) n)) (flat_map more (range_with_len (s + 1) n)))
        → IsPermutation (x ∷ (f s ++ flat_map f (range_with_len (s + 1) n))) (more s ++ flat_map more (range_with_len (s + 1) n))
    go (inl e) behind =
        let first : more s ≡ x ∷ f s = ap (λ (b : Bool). cond b (x ∷ f s) (f s)) (eq-eqb h s e) in
        let rest : flat_map more (range_with_len (s + 1) n) ≡ flat_map f (range_with_len (s + 1) n) =
        flat_same more f (s + 1) n (λ i p q. ap (λ (b : Bool). cond b (x ∷ f i) (f i)) (ne_eqb h i (λ k. absurd (omega arith)))) in
        subst (λ l. IsPermutation (x ∷ (f s ++ flat_map f (range_with_len (s + 1) n))) (l ++ flat_map more (range_with_len (s + 1) n))) (sym first)
        (subst (λ l. IsPermutation (x ∷ (f s ++ flat_map f (range_with_len (s + 1) n))) ((x ∷ f s) ++ l)) (sym rest) (IsPermutation-refl _))
    go (inr e) behind =
        let first : more s ≡ f s = ap (λ (b : Bool). cond b (x ∷ f s) (f s)) (ne_eqb h s e) in
        let rest = behind (omega (arith, e)) (omega arith) in
        subst (λ l. IsPermutation (x ∷ (f s ++ flat_map f (range_with_len (s + 1) n))) (l ++ flat_map more (range_with_len (s + 1) n))) (sym first)
        (IsPermutation-trans _ _ _ (IsPermutation-sym _ _ (IsPermutation-middle (f s) x (flat_map f (range_with_len (s + 1) n))))
        (IsPermutation-append_right (f s) _ _ rest))

pub one_more : {A : Type 0} (x : A) (b : Bool) (h : ℕ) (f : ℕ → List A) (n : ℕ) → h < n
    → IsPermutation (cond b (x ∷ flat_map f (range_with_len 0 n)) (flat_map f (range_with_len 0 n)))
    (flat_map (λ a. cond (b && (h == a)) (x ∷ f a) (f a)) (range_with_len 0 n))
one_more x true h f n l = at_one x h f 0 n (omega arith) (omega arith)
one_more x false h f n l = IsPermutation-refl _
