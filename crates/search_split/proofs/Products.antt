-- How many workers the levels of a cut come to.
use Rattle.std.proofs.Common.{◌≡◌, ℕ, ◌*◌, ◌<◌, ◌≤◌, List, [], ◌∷◌, length, zero, suc, sym, ◌∙◌, ap, arith, get_or, drop, drop-cons}
use Rattle.search_split.specs.Cuts.{IsCut, product}

positive : (x y : ℕ) → 0 < x → 0 < y → 0 < x * y
positive x y h k = grind arith

some_product : (xs : List ℕ) → ((k : ℕ) → k < length xs → 1 ≤ get_or xs k 0) → 0 < product xs
some_product [] h = omega arith
some_product (x ∷ xs) h = positive x (product xs) (h 0 (omega arith)) (some_product xs (λ k below. h (suc k) (omega arith)))

some_left : (xs : List ℕ) (i : ℕ) → ((k : ℕ) → k < length xs → 1 ≤ get_or xs k 0) → 0 < product (drop i xs)
some_left [] zero h = omega arith
some_left [] (suc i) h = omega arith
some_left (x ∷ xs) zero h = some_product (x ∷ xs) h
some_left (x ∷ xs) (suc i) h = some_left xs i (λ k below. h (suc k) (omega arith))

at_least : (m p : ℕ) → 0 < p → m ≤ m * p
at_least m p h = grind arith

regroup : (t n p : ℕ) → t * (n * p) ≡ t * n * p
regroup t n p = grind arith

-- a product is past a limit that the product of its first numbers passes, if none of the others is 0
pub more_than : (xs : List ℕ) (i t n most : ℕ) → ((k : ℕ) → k < length xs → 1 ≤ get_or xs k 0) → i < length xs → n ≡ get_or xs i 0
    → t * product (drop i xs) ≡ product xs → most < t * n → most < product xs
more_than xs i t n most each inside is part more =
    let rest = drop (suc i) xs in
    let here : drop i xs ≡ get_or xs i 0 ∷ rest = drop-cons xs i 0 inside in
    let some = some_left xs (suc i) each in
    let whole : t * (n * product rest) ≡ product xs = ap (λ m. t * (m * product rest)) is ∙ sym (ap (λ ys. t * product ys) here) ∙ part in
    let same = regroup t n (product rest) in
    let least = at_least (t * n) (product rest) some in
    omega (arith, whole, same, least, more)

-- the levels so far have too many threads already
pub too_many : (levels : List ℕ) (i t n : ℕ) → IsCut levels → i < length levels → n ≡ get_or levels i 0 → t * product (drop i levels) ≡ product levels
    → 64 < t * n → ⊥
too_many levels i t n cut inside is part more =
    let past = more_than levels i t n 64 (λ k below. (cut.each k below).0) inside is part more in
    let few = cut.threads in
    omega (arith, past, few)

-- no level has more workers than a crew may have
pub few_of_two : (n m : ℕ) → IsCut (n ∷ m ∷ []) → (n ≤ 64) × (m ≤ 64)
few_of_two n m cut =
    let first : n ≤ 16 = (cut.each 0 (omega arith)).1 in
    let second : m ≤ 16 = (cut.each 1 (omega arith)).1 in
    (omega (arith, first), omega (arith, second))

pub few_of_three : (n m k : ℕ) → IsCut (n ∷ m ∷ k ∷ []) → (n ≤ 64) × (m ≤ 64) × (k ≤ 64)
few_of_three n m k cut =
    let first : n ≤ 16 = (cut.each 0 (omega arith)).1 in
    let second : m ≤ 16 = (cut.each 1 (omega arith)).1 in
    let third : k ≤ 16 = (cut.each 2 (omega arith)).1 in
    (omega (arith, first), omega (arith, second), omega (arith, third))
