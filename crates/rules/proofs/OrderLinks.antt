-- Entries in order are the relations in order.
use Rattle.std.proofs.Common.{ℕ, zero, suc, ◌≡◌, ◌<◌, ◌≤◌, inl, inr, ◌==◌, eq-eqb, Bool, true, false, not, cond, List, [], ◌∷◌, map, length}
use Rattle.std.proofs.Common.{get_or, refl, sym, ◌∙◌, ap, subst, arith}
use Rattle.std.specs.Prelude.{All, Contains, count_by}
use Rattle.std.specs.Cmp.{IsTotalOrder, bool_cmp_total}
use Rattle.std.specs.Cmp.Lexicographic.{slice_cmp}
use Rattle.std.specs.Ordering.{nat_cmp, bool_cmp, is_lt, ordering_reverse}
use Rattle.std.specs.declared.cmp.Ordering.{Ordering}
use Rattle.std.specs.declared.cmp.Ordering.TheVariants.{Less, Equal, Greater}
use Rattle.std.proofs.lemmas.Cmp.{nat_cmp_total, nat_list_cmp_total, on_total, then_total}
use Rattle.std.proofs.lemmas.List.Sorted.{sorted_far, ranks_by, All-permutation, Contains-permutation, IsPermutation-map, sum_by-IsPermutation}
use Rattle.std.proofs.lemmas.List.Sums.{sum_by-cons}
use Rattle.std.proofs.lemmas.List.Elements.{All-head, All-tail}
use Rattle.rules.specs.declared.order_of_relations.Ranked.{Ranked}
use Rattle.statement.specs.Clause.{Alternative, Relation}
use Rattle.statement.specs.Dependence.{IsAmong, is_fixed}
use Rattle.statement.specs.Order.{rank, then_by, fixed_place, relation_cmp, sorted, relations_in_order}
use Rattle.rules.specs.Placing.{entry_cmp, EntriesInOrder, IsEntry, AreEntries}
use Rattle.rules_profile.proofs.Facts.{Rising, relation_total}
use Rattle.rules_profile.proofs.Facts.{tied_equal, rising_same, relations_rising, relations_are_heads, heads_are_relations}

-- Entries are ordered totally.

entry_total : IsTotalOrder entry_cmp
entry_total =
    then_total (on_total (λ (e : Ranked). e.is_moving) bool_cmp_total)
    (then_total (on_total (λ (e : Ranked). e.rank) nat_cmp_total)
    (then_total (on_total (λ (e : Ranked). e.name.now) nat_list_cmp_total)
    (then_total (on_total (λ (e : Ranked). e.arity) nat_cmp_total) (on_total (λ (e : Ranked). e.number) nat_cmp_total))))

-- The entries in order rise.

all_among : {X : Type 0} (P : X → Type 0) (xs : List X) (x : X) → All P xs → IsAmong x xs → P x
all_among P [] x a i = absurd i
all_among P (y ∷ ys) x a (inl e) = subst P (sym e) (All-head P y ys a)
all_among P (y ∷ ys) x a (inr i) = all_among P ys x (All-tail P y ys a) i

among_contains : (xs : List Relation) (x : Relation) → IsAmong x xs → Contains xs x
among_contains [] x i = absurd i
among_contains (y ∷ ys) x (inl e) = (0, (let l : 0 < suc (length ys) = omega arith in l), sym e)
among_contains (y ∷ ys) x (inr i) = let k = among_contains ys x i in (suc k.0, (let h = k.1 in omega (arith, h)), k.2)

contains_among : (xs : List Relation) (x : Relation) → Contains xs x → IsAmong x xs
contains_among xs x c = go xs c.0 c.1 c.2
  where
    go : (xs : List Relation) (k : ℕ) → k < length xs → get_or xs k x ≡ x → IsAmong x xs
    go [] k h e = absurd (let bad : ⊥ = omega (arith, h) in bad)
    go (y ∷ ys) zero h e = inl (sym e)
    go (y ∷ ys) (suc k) h e = inr (go ys k (omega (arith, h)) e)

map_among : (f : Ranked → Relation) (es : List Ranked) (q : Relation) → IsAmong q (map f es) → (e : Ranked) × IsAmong e es × (q ≡ f e)
map_among f [] q i = absurd i
map_among f (e ∷ es) q (inl s) = (e, inl refl, s)
map_among f (e ∷ es) q (inr i) = let k = map_among f es q i in (k.0, inr k.1, k.2)

among_at : (es : List Ranked) (e : Ranked) → IsAmong e es → (k : ℕ) × (k < length es) × (get_or es k e ≡ e)
among_at [] e i = absurd i
among_at (x ∷ es) e (inl s) = (0, (let l : 0 < suc (length es) = omega arith in l), sym s)
among_at (x ∷ es) e (inr i) = let k = among_at es e i in (suc k.0, (let h = k.1 in omega (arith, h)), k.2)

counts_one : (a b : ℕ) → a ≡ b → 1 ≤ cond (a == b) 1 0
counts_one a b e = go (a == b) (eq-eqb a b e)
  where
    go : (t : Bool) → t ≡ true → 1 ≤ cond t 1 0
    go true f = omega arith
    go false f = absurd cc

counted : (number : ℕ) (es : List Ranked) (e : Ranked) → IsAmong e es → e.number ≡ number → 1 ≤ count_by (λ (x : Ranked). x.number == number) es
counted number [] e i s = absurd i
counted number (x ∷ es) e (inl f) s =
    let g = sum_by-cons (λ (y : Ranked). cond (y.number == number) 1 0) x es in
    let h = counts_one x.number number (ap (λ (y : Ranked). y.number) (sym f) ∙ s) in
    omega (arith, g, h)
counted number (x ∷ es) e (inr i) s = let g = sum_by-cons (λ (y : Ranked). cond (y.number == number) 1 0) x es in let h = counted number es e i s in
    omega (arith, g, h)

counted_more : (number : ℕ) (x : Ranked) (es : List Ranked)
    → count_by (λ (y : Ranked). y.number == number) es ≤ count_by (λ (y : Ranked). y.number == number) (x ∷ es)
counted_more number x es = let g = sum_by-cons (λ (y : Ranked). cond (y.number == number) 1 0) x es in omega (arith, g)

then_by-assoc : (a b c : Ordering) → then_by (then_by a b) c ≡ then_by a (then_by b c)
then_by-assoc Less b c = refl
then_by-assoc Equal b c = refl
then_by-assoc Greater b c = refl

moving_place : (a b : Bool) → bool_cmp (not a) (not b) ≡ nat_cmp (cond a 0 1) (cond b 0 1)
moving_place true true = refl
moving_place true false = refl
moving_place false true = refl
moving_place false false = refl

entry_is : (n : ℕ) (name : ℕ → Relation) (rules : List Alternative) (a b : Ranked) → IsEntry n name rules a → IsEntry n name rules b
    → entry_cmp a b ≡ then_by (relation_cmp rules (name a.number) (name b.number)) (nat_cmp a.number b.number)
entry_is n name rules a b p q =
    let place : bool_cmp a.is_moving b.is_moving ≡ nat_cmp (fixed_place rules (name a.number)) (fixed_place rules (name b.number))
    = ap (λ (x : Bool). bool_cmp x b.is_moving) p.moving ∙ ap (λ (x : Bool). bool_cmp (not (is_fixed rules (name a.number))) x) q.moving
    ∙ moving_place (is_fixed rules (name a.number)) (is_fixed rules (name b.number)) in
    let ranks : nat_cmp a.rank b.rank ≡ nat_cmp (rank rules (name a.number)) (rank rules (name b.number))
    = ap (λ (x : ℕ). nat_cmp x b.rank) p.rank_is ∙ ap (λ (x : ℕ). nat_cmp (rank rules (name a.number)) x) q.rank_is in
    let words : slice_cmp nat_cmp a.name.now b.name.now ≡ slice_cmp nat_cmp (name a.number).word (name b.number).word
    = ap (λ (x : List ℕ). slice_cmp nat_cmp x b.name.now) p.word ∙ ap (λ (x : List ℕ). slice_cmp nat_cmp (name a.number).word x) q.word in
    let arities : nat_cmp a.arity b.arity ≡ nat_cmp (name a.number).arity (name b.number).arity
    = ap (λ (x : ℕ). nat_cmp x b.arity) p.arity_is ∙ ap (λ (x : ℕ). nat_cmp (name a.number).arity x) q.arity_is in
    whole _ _ _ _ _ _ _ _ (nat_cmp a.number b.number) place ranks words arities
  where
    whole : (f f' r r' w w' t t' m : Ordering) → f ≡ f' → r ≡ r' → w ≡ w' → t ≡ t'
        → then_by f (then_by r (then_by w (then_by t m))) ≡ then_by (then_by f' (then_by r' (then_by w' t'))) m
    whole f f' r r' w w' t t' m a b c d =
        ap (λ (x : Ordering). then_by x (then_by r (then_by w (then_by t m)))) a
        ∙ ap (λ (x : Ordering). then_by f' (then_by x (then_by w (then_by t m)))) b
        ∙ ap (λ (x : Ordering). then_by f' (then_by r' (then_by x (then_by t m)))) c
        ∙ ap (λ (x : Ordering). then_by f' (then_by r' (then_by w' (then_by x m)))) d
        ∙ sym (then_by-assoc f' (then_by r' (then_by w' t')) m
        ∙ ap (λ (x : Ordering). then_by f' x) (then_by-assoc r' (then_by w' t') m ∙ ap (λ (x : Ordering). then_by r' x) (then_by-assoc w' t' m)))

AreFar : List Ranked → Type 0
AreFar es = (i j : ℕ) (d : Ranked) → i ≤ j → j < length es → is_lt (entry_cmp (get_or es j d) (get_or es i d)) ≡ false

entries_rising : (n : ℕ) (name : ℕ → Relation) (rules : List Alternative) → ((i j : ℕ) → i < n → j < n → name i ≡ name j → i ≡ j) → (es : List Ranked)
    → All (IsEntry n name rules) es
    → ((number : ℕ) → count_by (λ (e : Ranked). e.number == number) es ≤ 1) → AreFar es
    → Rising (relation_cmp rules) (map (λ (e : Ranked). name e.number) es)
unfolding AreFar
entries_rising n name rules different [] all once far = tt
entries_rising n name rules different (e ∷ es) all once far = (
  (λ q i. first q (map_among (λ (x : Ranked). name x.number) es q i)),
  entries_rising n name rules different es (All-tail (IsEntry n name rules) e es all) (λ number. (let a = once number in let b =
      counted_more number e es in omega (arith, a, b)))
      (λ i j d h k. far (suc i) (suc j) d (omega (arith, h)) (omega (arith, k))),
)
  where
    here : IsEntry n name rules e
    here = All-head (IsEntry n name rules) e es all

    alone : (x : Ranked) → IsAmong x es → x.number ≡ e.number → ⊥
    alone x i s =
        let a = once e.number in let b = counted e.number es x i s in
        let g = sum_by-cons (λ (y : Ranked). cond (y.number == e.number) 1 0) e es in
        let h = counts_one e.number e.number refl in
        omega (arith, a, b, g, h)

    not_after : (x : Ranked) → IsAmong x es → is_lt (entry_cmp x e) ≡ false
    not_after x i = let k = among_at es x i in
        subst (λ (y : Ranked). is_lt (entry_cmp y e) ≡ false) k.2 (far 0 (suc k.0) x (omega arith) (let h = k.1 in omega (arith, h)))

    less : (x : Ranked) → IsAmong x es → IsEntry n name rules x → (o : Ordering) → relation_cmp rules (name x.number) (name e.number) ≡ o
        → is_lt (then_by o (nat_cmp x.number e.number)) ≡ false
        → relation_cmp rules (name e.number) (name x.number) ≡ Less
    less x i p Less h f = absurd cc
    less x i p Equal h f = absurd (alone x i (different x.number e.number p.inside here.inside (tied_equal rules (name x.number) (name e.number) h)))
    less x i p Greater h f = (relation_total rules).antisymm (name e.number) (name x.number) ∙ ap ordering_reverse h

    first : (q : Relation) → (x : Ranked) × IsAmong x es × (q ≡ name x.number) → relation_cmp rules (name e.number) q ≡ Less
    first q k =
        let p = all_among (IsEntry n name rules) es k.0 (All-tail (IsEntry n name rules) e es all) k.1 in
        subst (λ (y : Relation). relation_cmp rules (name e.number) y ≡ Less) (sym k.2)
        (less k.0 k.1 p (relation_cmp rules (name (k.0).number) (name e.number)) refl (ap is_lt (sym (entry_is n name rules k.0 e p here))
        ∙ not_after k.0 k.1))

map_numbers : (name : ℕ → Relation) (es : List Ranked) → map name (map (λ (e : Ranked). e.number) es) ≡ map (λ (e : Ranked). name e.number) es
map_numbers name [] = refl
map_numbers name (e ∷ es) = ap (λ (ps : List Relation). name e.number ∷ ps) (map_numbers name es)

pub order_is : (n : ℕ) (name : ℕ → Relation) (rules : List Alternative) (entries : List Ranked) → AreEntries n name rules entries → (numbers : List ℕ)
    → EntriesInOrder entries numbers
    → map name numbers ≡ relations_in_order rules
unfolding AreFar
order_is n name rules entries a numbers o =
    ap (map name) o.numbers_are ∙ map_numbers name o.placed
    ∙ rising_same (relation_cmp rules) (relation_total rules) (map (λ (e : Ranked). name e.number) o.placed) (relations_in_order rules)
    (entries_rising n name rules a.different o.placed all once far) (relations_rising rules) out into
  where
    all : All (IsEntry n name rules) o.placed
    all = All-permutation (IsEntry n name rules) entries o.placed o.moved a.each

    once : (number : ℕ) → count_by (λ (e : Ranked). e.number == number) o.placed ≤ 1
    once number = let s = sum_by-IsPermutation (λ (e : Ranked). cond (e.number == number) 1 0) entries o.placed o.moved in let b = a.once number in
        omega (arith, s, b)

    far : AreFar o.placed
    far i j d h k = sorted_far (λ x y. is_lt (entry_cmp x y)) (ranks_by entry_total (λ (e : Ranked). e)) o.placed o.sorted i j d h k

    out : (q : Relation) → IsAmong q (map (λ (e : Ranked). name e.number) o.placed) → IsAmong q (relations_in_order rules)
    out q i =
        let k = map_among (λ (e : Ranked). name e.number) o.placed q i in
        subst (λ (x : Relation). IsAmong x (relations_in_order rules)) (sym k.2)
        (heads_are_relations rules (name (k.0).number) (all_among (IsEntry n name rules) o.placed k.0 all k.1).heads)

    into : (q : Relation) → IsAmong q (relations_in_order rules) → IsAmong q (map (λ (e : Ranked). name e.number) o.placed)
    into q i =
        let here = a.complete q (relations_are_heads rules q i) in
        contains_among (map (λ (e : Ranked). name e.number) o.placed) q
        (Contains-permutation (map (λ (e : Ranked). name e.number) entries) (map (λ (e : Ranked). name e.number) o.placed) q
        (IsPermutation-map (λ (e : Ranked). name e.number) entries o.placed o.moved)
        (among_contains (map (λ (e : Ranked). name e.number) entries) q here))
