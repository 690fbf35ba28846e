-- Numbers in decimal, compared from their last digit on.
use Rattle.std.proofs.Common.{
  ℕ,
  suc,
  ◌+◌,
  ◌/◌,
  ◌%◌,
  ◌^◌,
  ◌<◌,
  ◌≤◌,
  Bool,
  true,
  false,
  ◌&&◌,
  ◌≡◌,
  ◌==◌,
  List,
  [],
  ◌∷◌,
  ◌++◌,
  length,
  ◌⊎◌,
  inl,
  inr,
  eqb-true,
  eq-eqb,
  refl,
  sym,
  ◌∙◌,
  ap,
  arith,
}
use Rattle.std.specs.Prelude.{decimal}
use Rattle.std.proofs.lemmas.Fmt.{decimal_digit, decimal_step, decimal_nonempty}
use Rattle.statement.specs.Tree.{name_eq}

and_no : (b : Bool) → (b && false) ≡ false
and_no true = refl
and_no false = refl

and_flips : (a b : Bool) → (a && b) ≡ (b && a)
and_flips true true = refl
and_flips true false = refl
and_flips false true = refl
and_flips false false = refl

and_again : (a b c : Bool) → (a && (b && c)) ≡ ((a && b) && c)
and_again true b c = refl
and_again false b c = refl

no_end : (ys : List ℕ) (b : ℕ) → name_eq [] (ys ++ b ∷ []) ≡ false
no_end [] b = refl
no_end (y ∷ ys) b = refl

no_begin : (xs : List ℕ) (a : ℕ) → name_eq (xs ++ a ∷ []) [] ≡ false
no_begin [] a = refl
no_begin (x ∷ xs) a = refl

-- two names with a byte behind each
last_bytes : (xs ys : List ℕ) (a b : ℕ) → name_eq (xs ++ a ∷ []) (ys ++ b ∷ []) ≡ (name_eq xs ys && (a == b))
last_bytes [] [] a b = and_flips (a == b) true
last_bytes [] (y ∷ ys) a b = ap (λ (t : Bool). (a == y) && t) (no_end ys b) ∙ and_no (a == y)
last_bytes (x ∷ xs) [] a b = ap (λ (t : Bool). (x == b) && t) (no_begin xs a) ∙ and_no (x == b)
last_bytes (x ∷ xs) (y ∷ ys) a b = ap (λ (t : Bool). (x == y) && t) (last_bytes xs ys a b) ∙ and_again (x == y) (name_eq xs ys) (a == b)

by_steps : (n : ℕ) → 10 ≤ n → n < 2 ^ 64 → (name rest : List ℕ) (last : ℕ) → name ≡ rest ++ last ∷ []
    → name_eq name (decimal n) ≡ (name_eq rest (decimal (n / 10)) && (last == 48 + n % 10))
by_steps n h k name rest last e =
    ap (λ (xs : List ℕ). name_eq xs (decimal n)) e ∙ ap (λ (xs : List ℕ). name_eq (rest ++ last ∷ []) xs) (decimal_step n h k)
    ∙ last_bytes rest (decimal (n / 10)) last (48 + n % 10)

one_step : (n : ℕ) → n < 10 → (name rest : List ℕ) (last : ℕ) → name ≡ rest ++ last ∷ []
    → name_eq name (decimal n) ≡ (name_eq rest [] && (last == 48 + n % 10))
one_step n h name rest last e =
    ap (λ (xs : List ℕ). name_eq xs (decimal n)) e
    ∙ ap (λ (xs : List ℕ). name_eq (rest ++ last ∷ []) xs)
    (decimal_digit n h ∙ ap (λ (k : ℕ). (48 + k) ∷ []) (let r : n ≡ n % 10 = sym (mod_small n h) in r))
    ∙ last_bytes rest [] last (48 + n % 10)
  where
    mod_small : (m : ℕ) → m < 10 → m % 10 ≡ m
    mod_small m h = omega arith

same_bytes : (a b : ℕ) → a ≡ b → (a == b) ≡ true
same_bytes a b h = eq-eqb a b h

other_bytes : (a b : ℕ) → (a ≡ b → ⊥) → (a == b) ≡ false
other_bytes a b h = go (a == b) refl
  where
    go : (t : Bool) → (a == b) ≡ t → (a == b) ≡ false
    go true e = absurd (h (eqb-true a b e))
    go false e = e

small_or_more : (n : ℕ) → (n < 10) ⊎ (10 ≤ n)
small_or_more n = grind arith

pub other_last : (n : ℕ) → n < 256 → (name rest : List ℕ) (last : ℕ) → name ≡ rest ++ last ∷ [] → (last ≡ 48 + n % 10 → ⊥)
    → false ≡ name_eq name (decimal n)
other_last n h name rest last e other = go (small_or_more n)
  where
    go : (n < 10) ⊎ (10 ≤ n) → false ≡ name_eq name (decimal n)
    go (inl k) = sym (one_step n k name rest last e ∙ ap (λ (b : Bool). name_eq rest [] && b) (other_bytes last (48 + n % 10) other)
        ∙ and_no (name_eq rest []))
    go (inr k) = sym (by_steps n k (omega (arith, h)) name rest last e
        ∙ ap (λ (b : Bool). name_eq rest (decimal (n / 10)) && b) (other_bytes last (48 + n % 10) other) ∙ and_no (name_eq rest (decimal (n / 10))))

and_yes : (b : Bool) → (b && true) ≡ b
and_yes true = refl
and_yes false = refl

empty_test : (rest : List ℕ) → name_eq rest [] ≡ (length rest == 0)
empty_test [] = refl
empty_test (x ∷ rest) = sym (other_bytes (suc (length rest)) 0 (λ h. let bad : ⊥ = omega (arith, h) in bad))

pub last_digit : (n : ℕ) → n < 10 → (name rest : List ℕ) (last : ℕ) (b : Bool) → name ≡ rest ++ last ∷ [] → last ≡ 48 + n % 10
    → b ≡ (length rest == 0) → b ≡ name_eq name (decimal n)
last_digit n h name rest last b e f g =
    g ∙ sym (one_step n h name rest last e ∙ ap (λ (t : Bool). name_eq rest [] && t) (same_bytes last (48 + n % 10) f) ∙ and_yes (name_eq rest [])
    ∙ empty_test rest)

pub more_digits : (n : ℕ) → 10 ≤ n → n < 256 → (name rest : List ℕ) (last : ℕ) (b : Bool) → name ≡ rest ++ last ∷ [] → last ≡ 48 + n % 10
    → b ≡ name_eq rest (decimal (n / 10)) → b ≡ name_eq name (decimal n)
more_digits n h k name rest last b e f g =
    g ∙ sym (by_steps n h (omega (arith, k)) name rest last e
    ∙ ap (λ (t : Bool). name_eq rest (decimal (n / 10)) && t) (same_bytes last (48 + n % 10) f) ∙ and_yes (name_eq rest (decimal (n / 10))))

pub no_name : (n : ℕ) (name : List ℕ) → n < 2 ^ 64 → length name ≡ 0 → false ≡ name_eq name (decimal n)
no_name n [] h e = go (decimal n) (decimal_nonempty n h)
  where
    go : (ds : List ℕ) → 0 < length ds → false ≡ name_eq [] ds
    go [] h = absurd (let bad : ⊥ = omega (arith, h) in bad)
    go (d ∷ ds) h = refl
no_name n (x ∷ name) h e = absurd (let bad : ⊥ = omega (arith, e) in bad)
