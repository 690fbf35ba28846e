-- The walk of a key is no longer than the key has bits.
use Rattle.std.proofs.Common.{ℕ, suc, zero, ◌≡◌, ◌+◌, ◌-◌, ◌*◌, ◌/◌, ◌%◌, ◌^◌, ◌<◌, ◌≤◌, ◌⊎◌, inl, inr, List, [], ◌∷◌, length, map, get_or}
use Rattle.std.proofs.Common.{refl, sym, ◌∙◌, ap, subst, arith}
use Rattle.std.specs.Prelude.{min}
use Rattle.std.proofs.lemmas.Nat.{shr-shr, shr_below, shr_split, div-mul-add, mod-mul-add, mul-add-lt, mod_below, pow_pos}
use Rattle.util_interner.specs.Hashes.{upper}
use Rattle.util_interner.specs.KeyLists.{key_at}
use Rattle.util_interner.specs.KeyTables.{key_hash, step_words, turn_of, bucket_of, slot_at, seen_at, AreSlots, StandsOnWalk}
use Rattle.util_interner.specs.ShortWalks.{AreNarrow, AreWalksShort}

less_or : (e d : ℕ) → e < suc d → (e < d) ⊎ (e ≡ d)
less_or e d h = grind arith

same_or : (k d : ℕ) → (k ≡ d) ⊎ (k ≡ d → ⊥)
same_or k d = grind arith

-- Numbers by their bits.

half : (x k : ℕ) → x < 2 ^ suc k → x / 2 ^ 1 < 2 ^ k
half x k h = shr_below x k 1 (subst (λ (n : ℕ). x < 2 ^ n) (let e : suc k ≡ k + 1 = omega arith in e) h)

later_bit : (x c : ℕ) → x / 2 ^ 1 / 2 ^ c ≡ x / 2 ^ suc c
later_bit x c = shr-shr x 1 c ∙ ap (λ (n : ℕ). x / 2 ^ n) (let e : 1 + c ≡ suc c = omega arith in e)

first_bit : (x : ℕ) → x / 2 ^ 0 % 2 ≡ x % 2 ^ 1
first_bit x = let e : x / 1 % 2 ≡ x % 2 = omega arith in e

bits_same : (k x y : ℕ) → x < 2 ^ k → y < 2 ^ k → ((c : ℕ) → c < k → x / 2 ^ c % 2 ≡ y / 2 ^ c % 2) → x ≡ y
bits_same zero x y h l same = let a : x < 1 = h in let b : y < 1 = l in omega (arith, a, b)
bits_same (suc k) x y h l same =
    let high : x / 2 ^ 1 ≡ y / 2 ^ 1 =
    bits_same k (x / 2 ^ 1) (y / 2 ^ 1) (half x k h) (half y k l)
    (λ c m. ap (λ (n : ℕ). n % 2) (later_bit x c) ∙ same (suc c) (omega (arith, m)) ∙ ap (λ (n : ℕ). n % 2) (sym (later_bit y c))) in
    let low : x % 2 ^ 1 ≡ y % 2 ^ 1 = sym (first_bit x) ∙ same zero (omega arith) ∙ first_bit y in
    sym (shr_split x 1) ∙ ap (λ (n : ℕ). n * 2 ^ 1 + x % 2 ^ 1) high ∙ ap (λ (n : ℕ). y / 2 ^ 1 * 2 ^ 1 + n) low ∙ shr_split y 1

-- a turn is a bit of a word
bit_of : (bits p c : ℕ) (key : List ℕ) → c < bits → turn_of bits key (p * bits + c) ≡ get_or (step_words key) p 0 / 2 ^ c % 2
bit_of bits p c key h =
    ap (λ (q : ℕ). get_or (step_words key) q 0 / 2 ^ ((p * bits + c) % bits) % 2) (div-mul-add p bits c h)
    ∙ ap (λ (r : ℕ). get_or (step_words key) p 0 / 2 ^ r % 2) (mod-mul-add p bits c h)

-- keys with the same words have the same numbers
words_same : (ks ls : List ℕ) → ((p : ℕ) → p ≤ length ls → get_or (map (λ x. x + 1) ks) p 0 ≡ get_or (map (λ x. x + 1) ls) p 0) → ks ≡ ls
words_same [] [] same = refl
words_same [] (l ∷ ls) same = absurd (let e = same zero (omega arith) in let bad : ⊥ = omega (arith, e) in bad)
words_same (k ∷ ks) [] same = absurd (let e = same zero (omega arith) in let bad : ⊥ = omega (arith, e) in bad)
words_same (k ∷ ks) (l ∷ ls) same =
    let first : k ≡ l = (let e = same zero (omega arith) in omega (arith, e)) in
    let rest : ks ≡ ls = words_same ks ls (λ p h. same (suc p) (omega (arith, h))) in
    ap (λ (x : ℕ). x ∷ ks) first ∙ ap (λ (xs : List ℕ). l ∷ xs) rest

word_narrow : (bits : ℕ) (key : List ℕ) (p : ℕ) → AreNarrow bits key → 0 < 2 ^ bits → get_or (map (λ x. x + 1) key) p 0 < 2 ^ bits
word_narrow bits [] zero a some = some
word_narrow bits [] (suc p) a some = some
word_narrow bits (k ∷ ks) zero a some = a zero (omega arith)
word_narrow bits (k ∷ ks) (suc p) a some = word_narrow bits ks p (λ q h. a (suc q) (omega (arith, h))) some

some_power : (bits : ℕ) → 0 < 2 ^ bits
some_power zero = omega arith
some_power (suc bits) = pow_pos (suc bits)

-- keys with the same turns are the same
turns_same : (bits : ℕ) (ks ls : List ℕ) → AreNarrow bits ks → AreNarrow bits ls
    → ((s : ℕ) → s < bits * (length ls + 2) → turn_of bits ks s ≡ turn_of bits ls s) → ks ≡ ls
turns_same bits ks ls a b same = words_same ks ls (λ p h.
    bits_same bits _ _ (word_narrow bits ks p a (some_power bits)) (word_narrow bits ls p b (some_power bits))
    (λ c l. sym (bit_of bits (suc p) c ks l) ∙ same (suc p * bits + c) (place p c h l) ∙ bit_of bits (suc p) c ls l))
  where
    place : (p c : ℕ) → p ≤ length ls → c < bits → suc p * bits + c < bits * (length ls + 2)
    place p c h l = mul-add-lt (suc p) bits c (length ls + 2) (omega (arith, h)) l

-- Where a number stands.

record Met (slots : List ℕ) (b : ℕ) (turn : ℕ → ℕ) (start i d : ℕ) : Type 0 where
  here : seen_at slots b turn start d ≡ i + 1
  before : (e : ℕ) → e < d → 0 < seen_at slots b turn start e

rises : (slots : List ℕ) (b n : ℕ) (turn : ℕ → ℕ) (start : ℕ) → AreSlots slots b n → ((d : ℕ) → turn d < 2) → (d : ℕ)
    → ((e : ℕ) → e ≤ d → 0 < seen_at slots b turn start e) → d < seen_at slots b turn start d
rises slots b n turn start a two zero some = some zero (omega arith)
rises slots b n turn start a two (suc d) some =
    let k = rises slots b n turn start a two d (λ e h. some e (omega (arith, h))) in
    let l = a.later (seen_at slots b turn start d - 1) (turn d) (two d) (some (suc d) (omega arith)) in omega (arith, k, l)

meets : (slots : List ℕ) (b n : ℕ) (turn : ℕ → ℕ) (start i : ℕ) → AreSlots slots b n → ((d : ℕ) → turn d < 2) → StandsOnWalk slots b turn start i
    → (d : ℕ) × Met slots b turn start i d
meets slots b n turn start i a two s = go (i + 1) 0 (omega arith) (λ e h. absurd (let bad : ⊥ = omega (arith, h) in bad))
  where
    go : (fuel d : ℕ) → i + 1 ≤ fuel + d → ((e : ℕ) → e < d → seen_at slots b turn start e ≡ i + 1 → ⊥) → (d : ℕ) × Met slots b turn start i d
    go zero d h missed =
        let k = rises slots b n turn start a two d (λ e l. (s e (λ c m. missed c (omega (arith, l, m)))).0) in
        let top = (s d missed).1 in absurd (let bad : ⊥ = omega (arith, k, top, h) in bad)
    go (suc fuel) d h missed = next (same_or (seen_at slots b turn start d) (i + 1)) (λ m. go fuel (suc d) (omega (arith, h)) m)
      where
        passed : (seen_at slots b turn start d ≡ i + 1 → ⊥) → (e : ℕ) → (e < d) ⊎ (e ≡ d) → seen_at slots b turn start e ≡ i + 1 → ⊥
        passed other e (inl l) = missed e l
        passed other e (inr f) = subst (λ (c : ℕ). seen_at slots b turn start c ≡ i + 1 → ⊥) (sym f) other

        next : (seen_at slots b turn start d ≡ i + 1) ⊎ (seen_at slots b turn start d ≡ i + 1 → ⊥)
            → (((e : ℕ) → e < suc d → seen_at slots b turn start e ≡ i + 1 → ⊥) → (d : ℕ) × Met slots b turn start i d)
            → (d : ℕ) × Met slots b turn start i d
        next (inl e) again = (d, record { here = e; before = λ c k. (s c (λ x l. missed x (omega (arith, k, l)))).0 })
        next (inr other) again = again (λ e k. passed other e (less_or e d k))

-- two walks to one slot are the same
same_walk : (slots : List ℕ) (b n : ℕ) (turn other : ℕ → ℕ) (start begin d e : ℕ) → AreSlots slots b n
    → ((d : ℕ) → turn d < 2) → ((d : ℕ) → other d < 2) → start < b → begin < b
    → ((c : ℕ) → c < d → 0 < seen_at slots b turn start c) → ((c : ℕ) → c < e → 0 < seen_at slots b other begin c)
    → slot_at slots b turn start d ≡ slot_at slots b other begin e → (d ≡ e) × ((c : ℕ) → c < e → turn c ≡ other c)
same_walk slots b n turn other start begin zero zero a two too s t p q same = (refl, λ c h. absurd (let bad : ⊥ = omega (arith, h) in bad))
same_walk slots b n turn other start begin zero (suc e) a two too s t p q same = absurd (let bad : ⊥ = omega (arith, same, s) in bad)
same_walk slots b n turn other start begin (suc d) zero a two too s t p q same = absurd (let bad : ⊥ = omega (arith, same, t) in bad)
same_walk slots b n turn other start begin (suc d) (suc e) a two too s t p q same =
    let one = two d in
    let another = too e in
    let some = p d (omega arith) in
    let more = q e (omega arith) in
    let turned : turn d ≡ other e = omega (arith, same, one, another) in
    let numbers : seen_at slots b turn start d ≡ seen_at slots b other begin e = omega (arith, same, one, another, some, more) in
    let before = same_walk slots b n turn other start begin d e a two too s t (λ c h. p c (omega (arith, h))) (λ c h. q c (omega (arith, h)))
    (a.once (slot_at slots b turn start d) (slot_at slots b other begin e) some numbers) in
    (ap (λ (m : ℕ). suc m) before.0, λ c h. go c before.0 turned before.1 (less_or c e h))
  where
    go : (c : ℕ) → d ≡ e → turn d ≡ other e → ((c : ℕ) → c < e → turn c ≡ other c) → (c < e) ⊎ (c ≡ e) → turn c ≡ other c
    go c f g old (inl h) = old c h
    go c f g old (inr h) = subst (λ (m : ℕ). turn m ≡ other m) (sym h) (subst (λ (m : ℕ). turn m ≡ other e) f g)

turn_below : (bits : ℕ) (key : List ℕ) (d : ℕ) → turn_of bits key d < 2
turn_below bits key d = mod_below (get_or (step_words key) (d / bits) 0 / 2 ^ (d % bits)) 2 (omega arith)

bucket_below : (key : List ℕ) (b : ℕ) → 0 < b → bucket_of key b < b
bucket_below key b some = go (b - 1) refl
  where
    below : (x y : ℕ) → min x y ≤ y
    below x y = grind arith

    go : (m : ℕ) → b - 1 ≡ m → bucket_of key b < b
    go m e = let k = below (upper (key_hash 0 key) * b % 2 ^ 64 / 4294967296) (b - 1) in omega (arith, k, some)

pub short : (bits : ℕ) → AreWalksShort bits
short bits keys t a some narrow key own steps passes = go (at_most steps (bits * (length key + 2)))
  where
    at_most : (m n : ℕ) → (m ≤ n) ⊎ (n < m)
    at_most m n = grind arith

    go : (steps ≤ bits * (length key + 2)) ⊎ (bits * (length key + 2) < steps) → steps ≤ bits * (length key + 2)
    go (inl h) = h
    go (inr h) =
        let slots = t.slots.items in
        let b = t.buckets in
        let e = bits * (length key + 2) in
        let turn = turn_of bits key in
        let start = bucket_of key b in
        let v = seen_at slots b turn start e in
        let i = v - 1 in
        let has = (passes e h).0 in
        let top = a.0.within (slot_at slots b turn start e) in
        let inside : i < length keys = omega (arith, has, top) in
        let found = key_at keys i in
        let m = meets slots b (length keys) (turn_of bits found) (bucket_of found b) i a.0 (turn_below bits found) (a.1 i inside) in
        let same = a.0.once (slot_at slots b (turn_of bits found) (bucket_of found b) m.0) (slot_at slots b turn start e)
        (subst (λ (x : ℕ). 0 < x) (sym m.1.here) (omega arith)) (m.1.here ∙ (let f : i + 1 ≡ v = omega (arith, has) in f)) in
        let turns = same_walk slots b (length keys) (turn_of bits found) turn (bucket_of found b) start m.0 e a.0 (turn_below bits found)
        (turn_below bits key) (bucket_below found b some) (bucket_below key b some) m.1.before (λ c k. (passes c (omega (arith, h, k))).0) same in
        absurd ((passes e h).1 (turns_same bits found key (narrow i inside) own turns.1))
