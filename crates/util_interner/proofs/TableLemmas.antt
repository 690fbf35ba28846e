-- Keys in slots.
use Rattle.std.proofs.Common.{
  ℕ,
  suc,
  zero,
  ◌≡◌,
  ◌+◌,
  ◌-◌,
  ◌*◌,
  ◌<◌,
  ◌≤◌,
  ◌⊎◌,
  inl,
  inr,
  List,
  [],
  ◌∷◌,
  ◌++◌,
  length,
  take,
  set,
  get_or,
  refl,
  sym,
  ◌∙◌,
  ap,
  subst,
  arith,
  length-append,
}
use Rattle.std.proofs.lemmas.List.{get_or-set_same, get_or-set_other, get_or-take, length-set}
use Rattle.std.proofs.lemmas.Grind.{get_or_default_zero}
use Rattle.std.specs.Prelude.{replicate}
use Rattle.util_interner.specs.KeyTables.{bucket_of, turn_of, slot_behind, slot_at, seen_at, AreSlots, StandsOnWalk, AreOnWalks, EndsBehind, EndsAt}
use Rattle.util_interner.specs.KeyLists.{key_at}

same_or : (k d : ℕ) → (k ≡ d) ⊎ (k ≡ d → ⊥)
same_or k d = grind arith

less_or : (e d : ℕ) → e < suc d → (e < d) ⊎ (e ≡ d)
less_or e d h = grind arith

below_or : (d m : ℕ) → (d < m) ⊎ (m ≤ d)
below_or d m = grind arith

past_end : (xs : List ℕ) (s : ℕ) → length xs ≤ s → get_or xs s 0 ≡ 0
past_end [] zero h = refl
past_end [] (suc s) h = refl
past_end (x ∷ xs) zero h = absurd (let bad : ⊥ = omega (arith, h) in bad)
past_end (x ∷ xs) (suc s) h = past_end xs s (omega (arith, h))

zero_behind : (xs : List ℕ) (s : ℕ) → get_or (xs ++ 0 ∷ []) s 0 ≡ get_or xs s 0
zero_behind [] zero = refl
zero_behind [] (suc s) = past_end [] s (omega arith)
zero_behind (x ∷ xs) zero = refl
zero_behind (x ∷ xs) (suc s) = zero_behind xs s

-- Walks.

-- the same walk, where the slots of its front are the same
walk_same : (old new : List ℕ) (b : ℕ) (turn : ℕ → ℕ) (start d : ℕ)
    → ((e : ℕ) → e < d → get_or new (slot_at old b turn start e) 0 ≡ seen_at old b turn start e)
    → slot_at new b turn start d ≡ slot_at old b turn start d
walk_same old new b turn start zero same = refl
walk_same old new b turn start (suc d) same =
    ap (λ (s : ℕ). slot_behind b (get_or new s 0 - 1) (turn d)) (walk_same old new b turn start d (λ e h. same e (omega (arith, h))))
    ∙ ap (λ (v : ℕ). slot_behind b (v - 1) (turn d)) (same d (omega arith))

-- a number stands on where the slots of numbers up to it are the same
pub stands_on : (old new : List ℕ) (b : ℕ) (turn : ℕ → ℕ) (start i : ℕ) → StandsOnWalk old b turn start i
    → ((s : ℕ) → 0 < get_or old s 0 → get_or old s 0 ≤ i + 1 → get_or new s 0 ≡ get_or old s 0) → StandsOnWalk new b turn start i
stands_on old new b turn start i a same d missed =
    let before = front d missed in
    let known = one d missed before in
    let is : seen_at new b turn start d ≡ seen_at old b turn start d =
    ap (λ (s : ℕ). get_or new s 0) (walk_same old new b turn start d before) ∙ same (slot_at old b turn start d) known.0 known.1 in
    subst (λ (v : ℕ). (0 < v) × (v ≤ i + 1)) (sym is) known
  where
    one : (d : ℕ) → ((e : ℕ) → e < d → seen_at new b turn start e ≡ i + 1 → ⊥)
        → ((e : ℕ) → e < d → get_or new (slot_at old b turn start e) 0 ≡ seen_at old b turn start e)
        → (0 < seen_at old b turn start d) × (seen_at old b turn start d ≤ i + 1)
    one d missed before = a d (λ e h f. missed e h
        (ap (λ (s : ℕ). get_or new s 0) (walk_same old new b turn start e (λ c k. before c (omega (arith, h, k)))) ∙ before e h ∙ f))

    front : (d : ℕ) → ((e : ℕ) → e < d → seen_at new b turn start e ≡ i + 1 → ⊥)
        → (e : ℕ) → e < d → get_or new (slot_at old b turn start e) 0 ≡ seen_at old b turn start e
    front zero missed e h = absurd (let bad : ⊥ = omega (arith, h) in bad)
    front (suc d) missed e h = go (front d (λ c k. missed c (omega (arith, k)))) (less_or e d h)
      where
        go : ((e : ℕ) → e < d → get_or new (slot_at old b turn start e) 0 ≡ seen_at old b turn start e) → (e < d) ⊎ (e ≡ d)
            → get_or new (slot_at old b turn start e) 0 ≡ seen_at old b turn start e
        go before (inl k) = before e k
        go before (inr f) =
            let known = one d (λ c k. missed c (omega (arith, k))) before in
            subst (λ (c : ℕ). get_or new (slot_at old b turn start c) 0 ≡ seen_at old b turn start c) (sym f)
            (same (slot_at old b turn start d) known.0 known.1)

-- a new number stands in the free slot in which its walk has ended
new_stands : (old new : List ℕ) (b n : ℕ) (turn : ℕ → ℕ) (start wanted slot m : ℕ) → EndsBehind old b turn start wanted slot m
    → ((s : ℕ) → get_or old s 0 ≤ n) → ((s : ℕ) → 0 < get_or old s 0 → get_or new s 0 ≡ get_or old s 0) → get_or new slot 0 ≡ n + 1
    → StandsOnWalk new b turn start n
new_stands old new b n turn start wanted slot m a small same is d missed = go (below_or d m) (below_or m d)
  where
    same_walk : (d : ℕ) → d ≤ m → slot_at new b turn start d ≡ slot_at old b turn start d
    same_walk d h = walk_same old new b turn start d (λ e k. same (slot_at old b turn start e) (a.passed e (omega (arith, h, k))).0)

    last : seen_at new b turn start m ≡ n + 1
    last = ap (λ (s : ℕ). get_or new s 0) (same_walk m (omega arith) ∙ sym a.here) ∙ is

    go : (d < m) ⊎ (m ≤ d) → (m < d) ⊎ (d ≤ m) → (0 < seen_at new b turn start d) × (seen_at new b turn start d ≤ n + 1)
    go (inl h) r =
        let some = (a.passed d h).0 in
        let k = small (slot_at old b turn start d) in
        let e : seen_at new b turn start d ≡ seen_at old b turn start d =
        ap (λ (s : ℕ). get_or new s 0) (same_walk d (omega (arith, h))) ∙ same (slot_at old b turn start d) some in
        subst (λ (v : ℕ). (0 < v) × (v ≤ n + 1)) (sym e) (some, omega (arith, k))
    go (inr h) (inl k) = absurd (missed m k last)
    go (inr h) (inr k) =
        let f : d ≡ m = omega (arith, h, k) in
        subst (λ (c : ℕ). (0 < seen_at new b turn start c) × (seen_at new b turn start c ≤ n + 1)) (sym f)
        (subst (λ (v : ℕ). (0 < v) × (v ≤ n + 1)) (sym last) (omega arith, omega arith))

-- One more number in a slot, and two slots more.

record Put (old new : List ℕ) (slot n : ℕ) : Type 0 where
  long : length new ≡ length old + 2
  own : get_or new slot 0 ≡ n + 1
  others : (s : ℕ) → (s ≡ slot → ⊥) → get_or new s 0 ≡ get_or old s 0

put_in : (old new : List ℕ) (slot n : ℕ) → slot < length old → new ≡ set (old ++ 0 ∷ [] ++ 0 ∷ []) slot (n + 1) → Put old new slot n
put_in old new slot n room e =
    let l : length (old ++ 0 ∷ [] ++ 0 ∷ []) ≡ length old + 2 =
    let p = length-append (old ++ 0 ∷ []) (0 ∷ []) in let q = length-append old (0 ∷ []) in omega (arith, p, q) in
    record {
      long = ap length e ∙ length-set (old ++ 0 ∷ [] ++ 0 ∷ []) slot (n + 1) ∙ l;
      own = ap (λ (xs : List ℕ). get_or xs slot 0) e ∙ get_or-set_same (old ++ 0 ∷ [] ++ 0 ∷ []) slot (n + 1) 0 (omega (arith, room, l));
      others = λ s other. ap (λ (xs : List ℕ). get_or xs s 0) e ∙ get_or-set_other (old ++ 0 ∷ [] ++ 0 ∷ []) slot s (n + 1) 0 other
          ∙ zero_behind (old ++ 0 ∷ []) s ∙ zero_behind old s;
    }

slots_more : (old new : List ℕ) (b n slot : ℕ) → AreSlots old b n → slot < length old → Put old new slot n → AreSlots new b (n + 1)
slots_more old new b n slot a room p =
    record {
      many = let l = p.long in let m = a.many in omega (arith, l, m);
      within = λ s. within s (same_or s slot);
      later = λ v t two some. later v t two some (same_or (slot_behind b v t) slot);
      once = λ s t some same. once s t some same (same_or s slot) (same_or t slot);
    }
  where
    within : (s : ℕ) → (s ≡ slot) ⊎ (s ≡ slot → ⊥) → get_or new s 0 ≤ n + 1
    within s (inl e) = let o = ap (λ (c : ℕ). get_or new c 0) e ∙ p.own in omega (arith, o)
    within s (inr other) = let o = p.others s other in let w = a.within s in omega (arith, o, w)

    later : (v t : ℕ) → t < 2 → 0 < get_or new (slot_behind b v t) 0 → (slot_behind b v t ≡ slot) ⊎ (slot_behind b v t ≡ slot → ⊥)
        → v + 1 < get_or new (slot_behind b v t) 0
    later v t two some (inl e) =
        let o = ap (λ (c : ℕ). get_or new c 0) e ∙ p.own in let m = a.many in omega (arith, o, m, e, room)
    later v t two some (inr other) =
        let o = p.others (slot_behind b v t) other in
        subst (λ (k : ℕ). v + 1 < k) (sym o) (a.later v t two (subst (λ (k : ℕ). 0 < k) o some))

    once : (s t : ℕ) → 0 < get_or new s 0 → get_or new s 0 ≡ get_or new t 0 → (s ≡ slot) ⊎ (s ≡ slot → ⊥) → (t ≡ slot) ⊎ (t ≡ slot → ⊥)
        → s ≡ t
    once s t some same (inl e) (inl f) = e ∙ sym f
    once s t some same (inl e) (inr other) =
        let o = ap (λ (c : ℕ). get_or new c 0) e ∙ p.own in
        let q = p.others t other in
        let w = a.within t in absurd (let bad : ⊥ = omega (arith, o, q, w, same) in bad)
    once s t some same (inr other) (inl e) =
        let o = ap (λ (c : ℕ). get_or new c 0) e ∙ p.own in
        let q = p.others s other in
        let w = a.within s in absurd (let bad : ⊥ = omega (arith, o, q, w, same) in bad)
    once s t some same (inr other) (inr another) =
        let o = p.others s other in
        a.once s t (subst (λ (k : ℕ). 0 < k) o some) (sym o ∙ same ∙ p.others t another)

-- One number less, and two slots less.

record Cut (old new : List ℕ) (many slot : ℕ) : Type 0 where
  long : length new ≡ many
  own : get_or new slot 0 ≡ 0
  others : (s : ℕ) → (s ≡ slot → ⊥) → s < many → get_or new s 0 ≡ get_or old s 0
  behind : (s : ℕ) → many ≤ s → get_or new s 0 ≡ 0

take_many : {A : Type 0} (k : ℕ) (xs : List A) → k ≤ length xs → length (take k xs) ≡ k
take_many zero xs h = refl
take_many (suc k) [] h = absurd (let bad : ⊥ = omega (arith, h) in bad)
take_many (suc k) (y ∷ ys) h = ap (λ (m : ℕ). suc m) (take_many k ys (omega (arith, h)))

cut_at : (old new : List ℕ) (many slot : ℕ) → slot < length old → many ≤ length old → new ≡ take many (set old slot 0) → Cut old new many slot
cut_at old new many slot room fits e =
    record {
      long = long;
      own = own (below_or slot many);
      others = λ s other h. ap (λ (xs : List ℕ). get_or xs s 0) e ∙ get_or-take many (set old slot 0) s 0 h
          ∙ get_or-set_other old slot s 0 0 other;
      behind = behind;
    }
  where
    long : length new ≡ many
    long = ap length e ∙ take_many many (set old slot 0) (let l = length-set old slot 0 in omega (arith, l, fits))

    behind : (s : ℕ) → many ≤ s → get_or new s 0 ≡ 0
    behind s h = past_end new s (let l = long in omega (arith, l, h))

    own : (slot < many) ⊎ (many ≤ slot) → get_or new slot 0 ≡ 0
    own (inl h) = ap (λ (xs : List ℕ). get_or xs slot 0) e ∙ get_or-take many (set old slot 0) slot 0 h ∙ get_or-set_same old slot 0 0 room
    own (inr h) = behind slot h

slots_less : (old new : List ℕ) (b n slot : ℕ) → AreSlots old b (n + 1) → get_or old slot 0 ≡ n + 1 → Cut old new (b + 2 * n) slot → AreSlots new b n
slots_less old new b n slot a full c =
    record {
      many = c.long;
      within = λ s. within s (same_or s slot) (below_or s (b + 2 * n));
      later = λ v t two some.
          let o = left (slot_behind b v t) some in
          subst (λ (k : ℕ). v + 1 < k) (sym o) (a.later v t two (subst (λ (k : ℕ). 0 < k) o some));
      once = λ s t some same.
          let o = left s some in
          let q = left t (subst (λ (k : ℕ). 0 < k) same some) in
          a.once s t (subst (λ (k : ℕ). 0 < k) o some) (sym o ∙ same ∙ q);
    }
  where
    -- what is left is as it was
    left : (s : ℕ) → 0 < get_or new s 0 → get_or new s 0 ≡ get_or old s 0
    left s some = go (same_or s slot) (below_or s (b + 2 * n))
      where
        go : (s ≡ slot) ⊎ (s ≡ slot → ⊥) → (s < b + 2 * n) ⊎ (b + 2 * n ≤ s) → get_or new s 0 ≡ get_or old s 0
        go (inl e) r = let o = ap (λ (k : ℕ). get_or new k 0) e ∙ c.own in absurd (let bad : ⊥ = omega (arith, o, some) in bad)
        go (inr other) (inl h) = c.others s other h
        go (inr other) (inr h) = let o = c.behind s h in absurd (let bad : ⊥ = omega (arith, o, some) in bad)

    within : (s : ℕ) → (s ≡ slot) ⊎ (s ≡ slot → ⊥) → (s < b + 2 * n) ⊎ (b + 2 * n ≤ s) → get_or new s 0 ≤ n
    within s (inl e) r = let o = ap (λ (k : ℕ). get_or new k 0) e ∙ c.own in omega (arith, o)
    within s (inr other) (inr h) = let o = c.behind s h in omega (arith, o)
    within s (inr other) (inl h) = go (same_or (get_or old s 0) (n + 1))
      where
        go : (get_or old s 0 ≡ n + 1) ⊎ (get_or old s 0 ≡ n + 1 → ⊥) → get_or new s 0 ≤ n
        go (inl e) = absurd (other (a.once s slot (omega (arith, e)) (e ∙ sym full)))
        go (inr less) =
            let o = c.others s other h in
            let w = a.within s in
            let k : get_or old s 0 ≤ n = grind (arith, w, less) in omega (arith, o, k)

-- the slots of numbers before the last are the same without it
before_last : (old new : List ℕ) (b n slot i : ℕ) → AreSlots old b (n + 1) → get_or old slot 0 ≡ n + 1 → Cut old new (b + 2 * n) slot → i < n
    → (s : ℕ) → 0 < get_or old s 0 → get_or old s 0 ≤ i + 1 → get_or new s 0 ≡ get_or old s 0
before_last old new b n slot i a full c low s some h = go (same_or s slot) (below_or s (b + 2 * n))
  where
    go : (s ≡ slot) ⊎ (s ≡ slot → ⊥) → (s < b + 2 * n) ⊎ (b + 2 * n ≤ s) → get_or new s 0 ≡ get_or old s 0
    go (inl e) r = let o = ap (λ (k : ℕ). get_or old k 0) e ∙ full in absurd (let bad : ⊥ = omega (arith, o, h, low) in bad)
    go (inr other) (inl k) = c.others s other k
    go (inr other) (inr k) = inside (below_or s (length old))
      where
        inside : (s < length old) ⊎ (length old ≤ s) → get_or new s 0 ≡ get_or old s 0
        inside (inr l) = let o = past_end old s l in absurd (let bad : ⊥ = omega (arith, o, some) in bad)
        inside (inl l) =
            let m = a.many in
            let at : slot_behind b n (s - (b + 2 * n)) ≡ s = omega (arith, k) in
            let late = a.later n (s - (b + 2 * n)) (omega (arith, l, m, k)) (subst (λ (x : ℕ). 0 < get_or old x 0) (sym at) some) in
            let bound = subst (λ (x : ℕ). n + 1 < get_or old x 0) at late in
            absurd (let bad : ⊥ = omega (arith, bound, h, low) in bad)

-- Keys.

list_before : (xs : List (List ℕ)) (x : List ℕ) (i : ℕ) → i < length xs → get_or (xs ++ x ∷ []) i [] ≡ get_or xs i []
list_before [] x i h = absurd (let bad : ⊥ = omega (arith, h) in bad)
list_before (y ∷ ys) x zero h = refl
list_before (y ∷ ys) x (suc i) h = list_before ys x i (omega (arith, h))

list_last : (xs : List (List ℕ)) (x : List ℕ) (n : ℕ) → n ≡ length xs → get_or (xs ++ x ∷ []) n [] ≡ x
list_last [] x zero e = refl
list_last [] x (suc n) e = absurd (let bad : ⊥ = omega (arith, e) in bad)
list_last (y ∷ ys) x zero e = absurd (let bad : ⊥ = omega (arith, e) in bad)
list_last (y ∷ ys) x (suc n) e = list_last ys x n (omega (arith, e))

-- what stands on the walk of a key stands on that of the same key
walk_of : (bits b i : ℕ) (slots key other : List ℕ) → key ≡ other → StandsOnWalk slots b (turn_of bits key) (bucket_of key b) i
    → StandsOnWalk slots b (turn_of bits other) (bucket_of other b) i
walk_of bits b i slots key other e a = subst (λ (k : List ℕ). StandsOnWalk slots b (turn_of bits k) (bucket_of k b) i) e a

pub tabled_more : (bits b b1 n slot : ℕ) (keys more : List (List ℕ)) (key old new : List ℕ)
    → AreSlots old b (length keys) × AreOnWalks bits keys old b → EndsAt old b (turn_of bits key) (bucket_of key b) 0 slot
    → more ≡ keys ++ key ∷ [] → n ≡ length keys → b1 ≡ b → new ≡ set (old ++ 0 ∷ [] ++ 0 ∷ []) slot (n + 1)
    → AreSlots new b1 (length more) × AreOnWalks bits more new b1
tabled_more bits b b1 n slot keys more key old new a (m, ended) e c f g =
    subst (λ (k : ℕ). AreSlots new k (length more) × AreOnWalks bits more new k) (sym f)
    (subst (λ (ks : List (List ℕ)). AreSlots new b (length ks) × AreOnWalks bits ks new b) (sym e)
    (subst (λ (k : ℕ). AreSlots new b k) (sym many) (slots_more old new b n slot slots ended.inside put), λ i h. stand i (at_most i h)))
  where
    many : length (keys ++ key ∷ []) ≡ n + 1
    many = let l = length-append keys (key ∷ []) in omega (arith, l, c)

    slots : AreSlots old b n
    slots = subst (λ (k : ℕ). AreSlots old b k) (sym c) a.0

    put : Put old new slot n
    put = put_in old new slot n ended.inside g

    free : get_or old slot 0 ≡ 0
    free = go ended.ends
      where
        go : (get_or old slot 0 ≡ 0) ⊎ (get_or old slot 0 ≡ 0) → get_or old slot 0 ≡ 0
        go (inl e) = e
        go (inr e) = e

    same : (s : ℕ) → 0 < get_or old s 0 → get_or new s 0 ≡ get_or old s 0
    same s some = put.others s (λ e. let o = ap (λ (k : ℕ). get_or old k 0) e ∙ free in absurd (let bad : ⊥ = omega (arith, o, some) in bad))

    at_most : (i : ℕ) → i < length (keys ++ key ∷ []) → (i < n) ⊎ (i ≡ n)
    at_most i h = let l = many in less_or i n (omega (arith, h, l))

    stand : (i : ℕ) → (i < n) ⊎ (i ≡ n) → StandsOnWalk new b (turn_of bits (key_at (keys ++ key ∷ []) i)) (bucket_of (key_at (keys ++ key ∷ []) i) b) i
    stand i (inl h) =
        let inside : i < length keys = omega (arith, h, c) in
        stands_on old new b (turn_of bits (key_at (keys ++ key ∷ []) i)) (bucket_of (key_at (keys ++ key ∷ []) i) b) i
        (walk_of bits b i old (key_at keys i) (key_at (keys ++ key ∷ []) i) (sym (list_before keys key i inside)) (a.1 i inside))
        (λ s some h. same s some)
    stand i (inr h) =
        subst (λ (j : ℕ). StandsOnWalk new b (turn_of bits (key_at (keys ++ key ∷ []) j)) (bucket_of (key_at (keys ++ key ∷ []) j) b) j) (sym h)
        (walk_of bits b n new key (key_at (keys ++ key ∷ []) n) (sym (list_last keys key n c))
        (new_stands old new b n (turn_of bits key) (bucket_of key b) 0 slot m ended (λ s. slots.within s) same put.own))

pub tabled_less : (bits b b1 n slot : ℕ) (keys more : List (List ℕ)) (old new : List ℕ)
    → AreSlots old b (length keys) × AreOnWalks bits keys old b → 0 < length keys → n ≡ length keys - 1
    → EndsAt old b (turn_of bits (key_at keys n)) (bucket_of (key_at keys n) b) (n + 1) slot → more ≡ take n keys → b1 ≡ b
    → new ≡ take (b + 2 * n) (set old slot 0) → AreSlots new b1 (length more) × AreOnWalks bits more new b1
tabled_less bits b b1 n slot keys more old new a some c (m, ended) e f g =
    subst (λ (k : ℕ). AreSlots new k (length more) × AreOnWalks bits more new k) (sym f)
    (subst (λ (ks : List (List ℕ)). AreSlots new b (length ks) × AreOnWalks bits ks new b) (sym e)
    (subst (λ (k : ℕ). AreSlots new b k) (sym many) (slots_less old new b n slot slots full cut), λ i h. stand i (let l = many in omega (arith, h, l))))
  where
    many : length (take n keys) ≡ n
    many = take_many n keys (omega (arith, c))

    size : length keys ≡ n + 1
    size = omega (arith, c, some)

    slots : AreSlots old b (n + 1)
    slots = subst (λ (k : ℕ). AreSlots old b k) size a.0

    inside : n < length keys
    inside = omega (arith, c, some)

    full : get_or old slot 0 ≡ n + 1
    full = go ended.ends
      where
        go : (get_or old slot 0 ≡ 0) ⊎ (get_or old slot 0 ≡ n + 1) → get_or old slot 0 ≡ n + 1
        go (inr e) = e
        go (inl e) =
            let known = (a.1 n inside m (λ k h. (ended.passed k h).1)).0 in
            let o = ap (λ (s : ℕ). get_or old s 0) (sym ended.here) ∙ e in
            absurd (let bad : ⊥ = omega (arith, known, o) in bad)

    cut : Cut old new (b + 2 * n) slot
    cut = cut_at old new (b + 2 * n) slot ended.inside (let l = slots.many in omega (arith, l)) g

    stand : (i : ℕ) → i < n → StandsOnWalk new b (turn_of bits (key_at (take n keys) i)) (bucket_of (key_at (take n keys) i) b) i
    stand i h =
        stands_on old new b (turn_of bits (key_at (take n keys) i)) (bucket_of (key_at (take n keys) i) b) i
        (walk_of bits b i old (key_at keys i) (key_at (take n keys) i) (sym (get_or-take n keys i [] h)) (a.1 i (let l = inside in omega (arith, h, l))))
        (before_last old new b n slot i slots full cut h)

-- Free slots.

all_free : (many s : ℕ) → get_or {A = ℕ} (replicate many 0) s 0 ≡ 0
all_free zero zero = refl
all_free zero (suc s) = refl
all_free (suc many) zero = refl
all_free (suc many) (suc s) = all_free many s

free_many : (many : ℕ) → length {A = ℕ} (replicate many 0) ≡ many
free_many zero = refl
free_many (suc many) = ap (λ (n : ℕ). suc n) (free_many many)

pub none_tabled : (bits many : ℕ) (slots : List ℕ) → slots ≡ replicate many 0 → AreSlots slots many 0 × AreOnWalks bits [] slots many
none_tabled bits many slots e =
    subst (λ (xs : List ℕ). AreSlots xs many 0 × AreOnWalks bits [] xs many) (sym e) (
      record {
        many = let l = free_many many in omega (arith, l);
        within = λ s. let f = all_free many s in omega (arith, f);
        later = λ v t two some. let f = all_free many (slot_behind many v t) in absurd (let bad : ⊥ = omega (arith, f, some) in bad);
        once = λ s t some same. let f = all_free many s in absurd (let bad : ⊥ = omega (arith, f, some) in bad);
      },
      λ i h. absurd (let bad : ⊥ = omega (arith, h) in bad),
    )

-- one key more of a list
pub front_more : (keys : List (List ℕ)) (n : ℕ) → n < length keys → take (n + 1) keys ≡ take n keys ++ key_at keys n ∷ []
front_more keys n h = subst (λ (k : ℕ). take k keys ≡ take n keys ++ key_at keys n ∷ []) (let e : suc n ≡ n + 1 = omega arith in e) (go keys n h)
  where
    go : (keys : List (List ℕ)) (n : ℕ) → n < length keys → take (suc n) keys ≡ take n keys ++ key_at keys n ∷ []
    go [] n h = absurd (let bad : ⊥ = omega (arith, h) in bad)
    go (k ∷ ks) zero h = refl
    go (k ∷ ks) (suc n) h = ap (λ (zs : List (List ℕ)). k ∷ zs) (go ks n (omega (arith, h)))

pub front_many : (keys : List (List ℕ)) (n : ℕ) → n ≤ length keys → length (take n keys) ≡ n
front_many keys n h = take_many n keys h

pub front_all : (keys : List (List ℕ)) (n : ℕ) → length keys ≤ n → take n keys ≡ keys
front_all [] zero h = refl
front_all [] (suc n) h = refl
front_all (k ∷ ks) zero h = absurd (let bad : ⊥ = omega (arith, h) in bad)
front_all (k ∷ ks) (suc n) h = ap (λ (zs : List (List ℕ)). k ∷ zs) (front_all ks n (omega (arith, h)))

-- A walk so far: it has passed keys of other numbers, and is at a slot whose key, if there is one, is not among the first.
pub record Walking (slots : List ℕ) (buckets : ℕ) (turn : ℕ → ℕ) (start wanted step slot : ℕ) : Type 0 where
  pub here : slot ≡ slot_at slots buckets turn start step
  pub inside : slot < length slots
  pub rises : 0 < get_or slots slot 0 → step < get_or slots slot 0
  pub passed : (e : ℕ) → e < step → (0 < seen_at slots buckets turn start e) × (seen_at slots buckets turn start e ≡ wanted → ⊥)

pub walk_begins : (slots : List ℕ) (b n : ℕ) (turn : ℕ → ℕ) (start wanted slot : ℕ) → AreSlots slots b n → slot ≡ start → slot < b
    → Walking slots b turn start wanted 0 slot
walk_begins slots b n turn start wanted slot a e room =
    record {
      here = e;
      inside = let m = a.many in omega (arith, m, room);
      rises = λ some. some;
      passed = λ e h. absurd (let bad : ⊥ = omega (arith, h) in bad);
    }

pub walk_goes : (slots : List ℕ) (b n : ℕ) (turn : ℕ → ℕ) (start wanted step slot left number t slot1 : ℕ) → AreSlots slots b n
    → Walking slots b turn start wanted step slot → left ≡ get_or slots slot left → (left ≡ 0 → ⊥) → (left ≡ wanted → ⊥) → number ≡ left - 1
    → t ≡ turn step → t < 2 → slot1 ≡ slot_behind b number t → Walking slots b turn start wanted (step + 1) slot1
walk_goes slots b n turn start wanted step slot left number t slot1 a w l some other e f two g =
    subst (λ (m : ℕ). Walking slots b turn start wanted m slot1) (let h : suc step ≡ step + 1 = omega arith in h)
    (record {
      here = g ∙ ap (λ (k : ℕ). slot_behind b k t) (e ∙ ap (λ (v : ℕ). v - 1) seen) ∙ ap (λ (k : ℕ). slot_behind b (seen_at slots b turn start step - 1) k) f;
      inside = let m = a.many in omega (arith, m, small, e, more, g, two);
      rises = λ next.
          let late = a.later number t two (subst (λ (s : ℕ). 0 < get_or slots s 0) g next) in
          let now = w.rises (let i = is in omega (arith, i, more)) in
          let k = subst (λ (s : ℕ). number + 1 < get_or slots s 0) (sym g) late in
          let i = is in omega (arith, k, now, i, e, more);
      passed = λ c h. passed c (less_or c step h);
    })
  where
    is : left ≡ get_or slots slot 0
    is = l ∙ get_or_default_zero slots slot left w.inside

    seen : left ≡ seen_at slots b turn start step
    seen = is ∙ ap (λ (s : ℕ). get_or slots s 0) w.here

    small : left ≤ n
    small = let k = a.within slot in let i = is in omega (arith, k, i)

    more : 0 < left
    more = grind (arith, some)

    passed : (c : ℕ) → (c < step) ⊎ (c ≡ step) → (0 < seen_at slots b turn start c) × (seen_at slots b turn start c ≡ wanted → ⊥)
    passed c (inl h) = w.passed c h
    passed c (inr h) =
        subst (λ (k : ℕ). (0 < seen_at slots b turn start k) × (seen_at slots b turn start k ≡ wanted → ⊥)) (sym h)
        (subst (λ (v : ℕ). (0 < v) × (v ≡ wanted → ⊥)) seen (more, other))

-- no walk is longer than there are numbers
pub walk_over : (slots : List ℕ) (b n : ℕ) (turn : ℕ → ℕ) (start wanted step slot : ℕ) → AreSlots slots b n → Walking slots b turn start wanted step slot
    → n ≤ step → get_or slots slot 0 ≡ 0
walk_over slots b n turn start wanted step slot a w h = go (get_or slots slot 0) refl
  where
    go : (v : ℕ) → get_or slots slot 0 ≡ v → get_or slots slot 0 ≡ 0
    go zero e = e
    go (suc v) e = let k = w.rises (omega (arith, e)) in let i = a.within slot in absurd (let bad : ⊥ = omega (arith, k, i, h) in bad)

pub walk_ends : (slots : List ℕ) (b : ℕ) (turn : ℕ → ℕ) (start wanted step slot : ℕ) → Walking slots b turn start wanted step slot
    → (get_or slots slot 0 ≡ 0) ⊎ (get_or slots slot 0 ≡ wanted) → EndsAt slots b turn start wanted slot
walk_ends slots b turn start wanted step slot w e = (step, record { here = w.here; inside = w.inside; passed = w.passed; ends = e })

-- the slot at which a walk goes on is inside
pub goes_inside : (slots : List ℕ) (b n left number t slot : ℕ) → AreSlots slots b n → slot < length slots → left ≡ get_or slots slot left → (left ≡ 0 → ⊥)
    → number ≡ left - 1 → t < 2 → slot_behind b number t < length slots
goes_inside slots b n left number t slot a room l some e two =
    let is = l ∙ get_or_default_zero slots slot left room in
    let w = a.within slot in
    let m = a.many in
    let more : 0 < left = grind (arith, some) in omega (arith, is, w, m, more, e, two)

-- A walk for a key that none of the passed numbers has.
pub record Finding (bits : ℕ) (keys : List (List ℕ)) (key slots : List ℕ) (buckets step slot : ℕ) : Type 0 where
  pub walking : Walking slots buckets (turn_of bits key) (bucket_of key buckets) 0 step slot
  pub missed : (e : ℕ) → e < step → key_at keys (seen_at slots buckets (turn_of bits key) (bucket_of key buckets) e - 1) ≡ key → ⊥

pub finding_begins : (bits : ℕ) (keys : List (List ℕ)) (key slots : List ℕ) (b slot : ℕ) → AreSlots slots b (length keys) → slot ≡ bucket_of key b → slot < b
    → Finding bits keys key slots b 0 slot
finding_begins bits keys key slots b slot a e room =
    record {
      walking = walk_begins slots b (length keys) (turn_of bits key) (bucket_of key b) 0 slot a e room;
      missed = λ e h. absurd (let bad : ⊥ = omega (arith, h) in bad);
    }

pub finding_goes : (bits : ℕ) (keys : List (List ℕ)) (key slots : List ℕ) (b step slot left number t slot1 : ℕ) → AreSlots slots b (length keys)
    → Finding bits keys key slots b step slot → left ≡ get_or slots slot left → (left ≡ 0 → ⊥) → (key_at keys number ≡ key → ⊥) → number ≡ left - 1
    → t ≡ turn_of bits key step → t < 2 → slot1 ≡ slot_behind b number t → Finding bits keys key slots b (step + 1) slot1
finding_goes bits keys key slots b step slot left number t slot1 a w l some other e f two g =
    record {
      walking = walk_goes slots b (length keys) (turn_of bits key) (bucket_of key b) 0 step slot left number t slot1 a w.walking l some some e f two g;
      missed = λ c h. missed c (less_or c step (omega (arith, h)));
    }
  where
    seen : seen_at slots b (turn_of bits key) (bucket_of key b) step ≡ left
    seen = sym (l ∙ get_or_default_zero slots slot left w.walking.inside ∙ ap (λ (s : ℕ). get_or slots s 0) w.walking.here)

    missed : (c : ℕ) → (c < step) ⊎ (c ≡ step) → key_at keys (seen_at slots b (turn_of bits key) (bucket_of key b) c - 1) ≡ key → ⊥
    missed c (inl h) = w.missed c h
    missed c (inr h) = λ k. other (
        ap (λ (x : ℕ). key_at keys x) (e ∙ ap (λ (v : ℕ). v - 1) (sym seen) ∙ ap (λ (j : ℕ). seen_at slots b (turn_of bits key) (bucket_of key b) j - 1) (sym h))
        ∙ k)

-- the walk is at its end, so no number has the key
pub not_there : (bits : ℕ) (keys : List (List ℕ)) (key slots : List ℕ) (b step slot : ℕ) → AreSlots slots b (length keys) × AreOnWalks bits keys slots b
    → Finding bits keys key slots b step slot → get_or slots slot 0 ≡ 0 → (k : ℕ) → k < length keys → key_at keys k ≡ key → ⊥
not_there bits keys key slots b step slot a w free k h e =
    let known = walk_of bits b k slots (key_at keys k) key e (a.1 k h) step (λ c l f. w.missed c l
    (ap (λ (v : ℕ). key_at keys (v - 1)) f ∙ ap (λ (x : ℕ). key_at keys x) (let g : k + 1 - 1 ≡ k = omega arith in g) ∙ e)) in
    let o = ap (λ (s : ℕ). get_or slots s 0) (sym w.walking.here) ∙ free in
    let some = known.0 in
    let bad : ⊥ = omega (arith, o, some) in bad

pub none_over : (bits : ℕ) (keys : List (List ℕ)) (key slots : List ℕ) (b step slot : ℕ) → AreSlots slots b (length keys) × AreOnWalks bits keys slots b
    → Finding bits keys key slots b step slot → length keys ≤ step → (k : ℕ) → k < length keys → key_at keys k ≡ key → ⊥
none_over bits keys key slots b step slot a w h =
    not_there bits keys key slots b step slot a w
    (walk_over slots b (length keys) (turn_of bits key) (bucket_of key b) 0 step slot a.0 w.walking h)
