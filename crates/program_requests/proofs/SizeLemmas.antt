-- Numbers by their digits, one after the other.
use Rattle.std.proofs.Common.{ℕ, ◌+◌, ◌-◌, ◌*◌, ◌≡◌, ◌≤◌, ◌<◌, ◌^◌, Bool, true, false, ◌&&◌, List, [], ◌∷◌, ◌++◌, length, take, drop, slice_index, refl, sym, ap, ◌∙◌, arith, take-append-drop}
use Rattle.std.proofs.Math.ListN.{drop_of_length-le}
use Rattle.std.proofs.lemmas.List.{drop_more}
use Rattle.std.specs.Prelude.{nat_eq}
use Rattle.std.specs.Cmp.Lexicographic.{pointwise, same_text, other_text}
use Rattle.program_requests.specs.Sizes.{is_digit, are_digits, number_after, IsSize}

-- a number does not shrink by more digits
grows : (n : ℕ) (cs : List ℕ) → n ≤ number_after n cs
grows n [] = omega arith
grows n (c ∷ cs) = let more = grows (n * 10 + (c - 48)) cs in omega (arith, more)

both_true : (a b : Bool) → (a && b) ≡ true → a ≡ true
both_true true b e = refl
both_true false b e = e

-- no number of 64 bits is written by digits of which the first ones write too much already
pub too_large : (limit : ℕ) (digits : List ℕ) (i size : ℕ) → i < length digits → are_digits (drop i digits) ≡ are_digits digits
    → number_after size (drop i digits) ≡ number_after 0 digits
    → (is_digit (slice_index digits i) ≡ true → limit ≤ size * 10 + (slice_index digits i - 48))
    → are_digits digits ≡ true → number_after 0 digits < limit → ⊥
too_large limit digits i size within same number h all fits =
    let b = slice_index digits i in
    let rest = drop (i + 1) digits in
    let here : drop i digits ≡ b ∷ rest = drop_more digits i 0 within in
    let first = both_true (is_digit b) (are_digits rest) (ap are_digits (sym here) ∙ same ∙ all) in
    let more : size * 10 + (b - 48) ≤ number_after (size * 10 + (b - 48)) rest = grows (size * 10 + (b - 48)) rest in
    let whole : number_after (size * 10 + (b - 48)) rest ≡ number_after 0 digits = ap (number_after size) (sym here) ∙ number in
    let large = h first in
    omega (arith, more, whole, large, fits)

pub is_size : (digits : List ℕ) (i size : ℕ) → length digits ≤ i → 0 < length digits → size < 2 ^ 64
    → are_digits (drop i digits) ≡ are_digits digits → number_after size (drop i digits) ≡ number_after 0 digits → IsSize digits size
is_size digits i size past some fits same number =
    let none : drop i digits ≡ [] = drop_of_length-le digits past in
    record {
      some = some;
      all = sym same ∙ ap are_digits none;
      number = sym number ∙ ap (number_after size) none;
      fits = fits;
    }

front_of : (front rest : List ℕ) → take (length front) (front ++ rest) ≡ front
front_of [] rest = refl
front_of (b ∷ bs) rest = ap (λ (l : List ℕ). b ∷ l) (front_of bs rest)

pub no_front : (text front rest : List ℕ) → pointwise nat_eq (take (length front) text) front ≡ false → text ≡ front ++ rest → ⊥
no_front text front rest h e =
    other_text (take (length front) text) front (sym h) (ap (λ (l : List ℕ). take (length front) l) e ∙ front_of front rest)

pub has_front : (text front : List ℕ) → pointwise nat_eq (take (length front) text) front ≡ true → text ≡ front ++ drop (length front) text
has_front text front h =
    sym (take-append-drop (length front) text)
    ∙ ap (λ (l : List ℕ). l ++ drop (length front) text) (same_text (take (length front) text) front (sym h))
