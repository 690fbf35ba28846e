-- The order of relations is total, and the relations that head an alternative rise in it.
use Rattle.std.proofs.Common.{ℕ, ◌≡◌, ◌⊎◌, inl, inr, Bool, true, false, cond, List, [], ◌∷◌}
use Rattle.std.proofs.Common.{refl, sym, ◌∙◌, ap, subst}
use Rattle.std.specs.Cmp.{IsTotalOrder}
use Rattle.std.specs.Cmp.Lexicographic.{slice_cmp}
use Rattle.std.specs.Ordering.{nat_cmp, ordering_reverse}
use Rattle.std.specs.declared.cmp.Ordering.{Ordering}
use Rattle.std.specs.declared.cmp.Ordering.TheVariants.{Less, Equal, Greater}
use Rattle.std.proofs.lemmas.Cmp.{ranked, nat_cmp_total, nat_list_cmp_total, on_total, then_total, tied_itself}
use Rattle.statement.specs.Clause.{Alternative, Relation, relation_eq}
use Rattle.statement.specs.Dependence.{IsAmong, is_among, heads_of, once_each}
use Rattle.statement.specs.Order.{rank, then_by, fixed_place, relation_cmp, is_less, into_order, sorted, relations_in_order}
use Rattle.rules_profile.proofs.Equality.{relation_eq_self}
use Rattle.rules_profile.proofs.Tests.{or_left, or_right}
use Rattle.rules_profile.proofs.Closure.{IsAmong-once_each}
use Rattle.rules_profile.proofs.Accepted.{into_order_cases, into_order_all}

-- The order of relations is total, and ties only what is equal.

pub relation_total : (rules : List Alternative) → IsTotalOrder (relation_cmp rules)
relation_total rules =
    then_total (on_total (fixed_place rules) nat_cmp_total)
    (then_total (on_total (rank rules) nat_cmp_total)
    (then_total (on_total (λ (p : Relation). p.word) nat_list_cmp_total) (on_total (λ (p : Relation). p.arity) nat_cmp_total)))

both_equal : (a b : Ordering) → then_by a b ≡ Equal → (a ≡ Equal) × (b ≡ Equal)
both_equal Less b h = absurd cc
both_equal Equal b h = (refl, h)
both_equal Greater b h = absurd cc

slices_equal : (xs ys : List ℕ) → slice_cmp nat_cmp xs ys ≡ Equal → xs ≡ ys
slices_equal [] [] h = refl
slices_equal [] (y ∷ ys) h = absurd cc
slices_equal (x ∷ xs) [] h = absurd cc
slices_equal (x ∷ xs) (y ∷ ys) h =
    let k = both_equal (nat_cmp x y) (slice_cmp nat_cmp xs ys) h in
    let e : x ≡ y = ranked x y Equal (sym k.0) in
    let f = slices_equal xs ys k.1 in
    ap (λ (z : ℕ). z ∷ xs) e ∙ ap (λ (zs : List ℕ). y ∷ zs) f

pub tied_equal : (rules : List Alternative) (p q : Relation) → relation_cmp rules p q ≡ Equal → p ≡ q
tied_equal rules p q h =
    let a = both_equal (nat_cmp (fixed_place rules p) (fixed_place rules q)) _ h in
    let b = both_equal (nat_cmp (rank rules p) (rank rules q)) _ a.1 in
    let d = both_equal (slice_cmp nat_cmp p.word q.word) (nat_cmp p.arity q.arity) b.1 in
    let e = slices_equal p.word q.word d.0 in
    let f : p.arity ≡ q.arity = ranked p.arity q.arity Equal (sym d.1) in
    λ i. record { word = e i; arity = f i }

-- Lists that rise strictly, and have the same elements, are equal.

abbrev pub Rising : (Relation → Relation → Ordering) → List Relation → Type 0
Rising R [] = Unit {0}
Rising R (p ∷ ps) = ((q : Relation) → IsAmong q ps → R p q ≡ Less) × Rising R ps

less_back : (R : Relation → Relation → Ordering) → IsTotalOrder R → (p q : Relation) → R p q ≡ Less → R q p ≡ Less → ⊥
less_back R t p q a b = let c : R p q ≡ ordering_reverse (R q p) = t.antisymm p q in let d : ordering_reverse (R q p) ≡ Greater =
    ap ordering_reverse b in cc

not_below_itself : (R : Relation → Relation → Ordering) → IsTotalOrder R → (p q : Relation) → q ≡ p → R p q ≡ Less → ⊥
not_below_itself R t p q e a = let b = tied_itself t p in let c : R p p ≡ Less = subst (λ (x : Relation). R p x ≡ Less) e a in cc

pub rising_same : (R : Relation → Relation → Ordering) → IsTotalOrder R → (xs ys : List Relation) → Rising R xs → Rising R ys
    → ((q : Relation) → IsAmong q xs → IsAmong q ys) → ((q : Relation) → IsAmong q ys → IsAmong q xs) → xs ≡ ys
rising_same R t [] [] a b into out = refl
rising_same R t [] (y ∷ ys) a b into out = absurd (out y (inl refl))
rising_same R t (x ∷ xs) [] a b into out = absurd (into x (inl refl))
rising_same R t (x ∷ xs) (y ∷ ys) a b into out =
    let e = first (into x (inl refl)) (out y (inl refl)) in
    ap (λ (z : Relation). z ∷ xs) e
    ∙ ap (λ (zs : List Relation). y ∷ zs)
    (rising_same R t xs ys a.1 b.1 (λ q i. later q i e (into q (inr i))) (λ q i. earlier q i e (out q (inr i))))
  where
    first : (x ≡ y) ⊎ IsAmong x ys → (y ≡ x) ⊎ IsAmong y xs → x ≡ y
    first (inl e) other = e
    first (inr i) (inl e) = sym e
    first (inr i) (inr j) = absurd (less_back R t x y (a.0 y j) (b.0 x i))

    later : (q : Relation) → IsAmong q xs → x ≡ y → (q ≡ y) ⊎ IsAmong q ys → IsAmong q ys
    later q i e (inl f) = absurd (not_below_itself R t x q (f ∙ sym e) (a.0 q i))
    later q i e (inr j) = j

    earlier : (q : Relation) → IsAmong q ys → x ≡ y → (q ≡ x) ⊎ IsAmong q xs → IsAmong q xs
    earlier q i e (inl f) = absurd (not_below_itself R t y q (f ∙ e) (b.0 q i))
    earlier q i e (inr j) = j

-- The relations in order rise.

abbrev pub AreApart : List Relation → Type 0
AreApart [] = Unit {0}
AreApart (p ∷ ps) = (IsAmong p ps → ⊥) × AreApart ps

among_tested : (p : Relation) (ps : List Relation) → IsAmong p ps → is_among p ps ≡ true
among_tested p [] i = absurd i
among_tested p (q ∷ ps) (inl e) = or_left _ _ (subst (λ (x : Relation). relation_eq p x ≡ true) e (relation_eq_self p))
among_tested p (q ∷ ps) (inr i) = or_right (relation_eq p q) (is_among p ps) (among_tested p ps i)

once_each_apart : (ps : List Relation) → AreApart (once_each ps)
once_each_apart [] = tt
once_each_apart (p ∷ ps) = go (is_among p (once_each ps)) refl (once_each_apart ps)
  where
    go : (b : Bool) → is_among p (once_each ps) ≡ b → AreApart (once_each ps) → AreApart (cond b (once_each ps) (p ∷ once_each ps))
    go true e a = a
    go false e a = ((λ i. (let f = among_tested p (once_each ps) i in let bad : ⊥ = cc in bad)), a)

once_each_out : (q : Relation) (ps : List Relation) → IsAmong q (once_each ps) → IsAmong q ps
once_each_out q [] i = i
once_each_out q (p ∷ ps) i = go (is_among p (once_each ps)) i (once_each_out q ps)
  where
    go : (b : Bool) → IsAmong q (cond b (once_each ps) (p ∷ once_each ps)) → (IsAmong q (once_each ps) → IsAmong q ps) → IsAmong q (p ∷ ps)
    go true i more = inr (more i)
    go false (inl e) more = inl e
    go false (inr i) more = inr (more i)

sorted_out : (rules : List Alternative) (q : Relation) (ps : List Relation) → IsAmong q (sorted rules ps) → IsAmong q ps
sorted_out rules q [] i = i
sorted_out rules q (p ∷ ps) i = elim (into_order_cases rules p q (sorted rules ps) i) [ inl e ↦ inl e | inr j ↦ inr (sorted_out rules q ps j) ]

sorted_into : (rules : List Alternative) (q : Relation) (ps : List Relation) → IsAmong q ps → IsAmong q (sorted rules ps)
sorted_into rules q [] i = i
sorted_into rules q (p ∷ ps) (inl e) = into_order_all rules p q (sorted rules ps) (inl e)
sorted_into rules q (p ∷ ps) (inr i) = into_order_all rules p q (sorted rules ps) (inr (sorted_into rules q ps i))

into_rising : (rules : List Alternative) (p : Relation) (ps : List Relation) → (IsAmong p ps → ⊥) → Rising (relation_cmp rules) ps
    → Rising (relation_cmp rules) (into_order rules p ps)
into_rising rules p [] apart r = ((λ q i. absurd i), tt)
into_rising rules p (q ∷ ps) apart r = go (relation_cmp rules p q) refl (into_rising rules p ps (λ i. apart (inr i)) r.1)
  where
    after : relation_cmp rules p q ≡ Less → (x : Relation) → (x ≡ q) ⊎ IsAmong x ps → relation_cmp rules p x ≡ Less
    after h x (inl e) = subst (λ (y : Relation). relation_cmp rules p y ≡ Less) (sym e) h
    after h x (inr i) = (relation_total rules).trans p q x h (r.0 x i)

    before : relation_cmp rules p q ≡ Greater → (x : Relation) → (x ≡ p) ⊎ IsAmong x ps → relation_cmp rules q x ≡ Less
    before h x (inl e) = subst (λ (y : Relation). relation_cmp rules q y ≡ Less) (sym e) ((relation_total rules).antisymm q p ∙ ap ordering_reverse h)
    before h x (inr i) = r.0 x i

    go : (o : Ordering) → relation_cmp rules p q ≡ o → Rising (relation_cmp rules) (into_order rules p ps)
        → Rising (relation_cmp rules) (cond (is_less (relation_cmp rules p q)) (p ∷ (q ∷ ps)) (q ∷ into_order rules p ps))
    go Less h more = subst (λ (o : Ordering). Rising (relation_cmp rules) (cond (is_less o) (p ∷ (q ∷ ps)) (q ∷ into_order rules p ps))) (sym h)
        (after h, r)
    go Equal h more = absurd (apart (inl (tied_equal rules p q h)))
    go Greater h more =
        subst (λ (o : Ordering). Rising (relation_cmp rules) (cond (is_less o) (p ∷ (q ∷ ps)) (q ∷ into_order rules p ps))) (sym h)
        ((λ x i. before h x (into_order_cases rules p x ps i)), more)

sorted_rising : (rules : List Alternative) (ps : List Relation) → AreApart ps → Rising (relation_cmp rules) (sorted rules ps)
sorted_rising rules [] a = tt
sorted_rising rules (p ∷ ps) a = into_rising rules p (sorted rules ps) (λ i. a.0 (sorted_out rules p ps i)) (sorted_rising rules ps a.1)

pub relations_rising : (rules : List Alternative) → Rising (relation_cmp rules) (relations_in_order rules)
relations_rising rules = sorted_rising rules (once_each (heads_of rules)) (once_each_apart (heads_of rules))

pub relations_are_heads : (rules : List Alternative) (q : Relation) → IsAmong q (relations_in_order rules) → IsAmong q (heads_of rules)
relations_are_heads rules q i = once_each_out q (heads_of rules) (sorted_out rules q (once_each (heads_of rules)) i)

pub heads_are_relations : (rules : List Alternative) (q : Relation) → IsAmong q (heads_of rules) → IsAmong q (relations_in_order rules)
heads_are_relations rules q i = sorted_into rules q (once_each (heads_of rules)) (IsAmong-once_each q (heads_of rules) i)
