-- Lines of numbers, one more at a time.
use Rattle.std.proofs.Common.{ℕ, suc, zero, ◌+◌, ◌<◌, ◌≡◌, List, [], ◌∷◌, ◌++◌, length, take, get_or, sym, ◌∙◌, ap, arith, append_assoc}
use Rattle.std.proofs.lemmas.Grind.{flat_map-append}
use Rattle.std.proofs.lemmas.List.{take_more, take_all, append-nil}
use Rattle.std.specs.List.{flat_map, range_with_len}
use Rattle.std.specs.Prelude.{Option, None, slice_get}
use Rattle.game.proofs.Facts.{none_past}

-- a range with one number more
range_more : (a n : ℕ) → range_with_len a (suc n) ≡ range_with_len a n ++ (a + n) ∷ []
range_more a zero = ap (λ (k : ℕ). k ∷ []) (omega arith)
range_more a (suc n) =
    ap (λ (ks : List ℕ). a ∷ ks) (range_more (a + 1) n) ∙ ap (λ (k : ℕ). a ∷ range_with_len (a + 1) n ++ k ∷ []) (omega arith)

-- what is made of numbers, and of one more behind them
behind : (f : ℕ → List ℕ) (xs ys : List ℕ) (x : ℕ) (old before after : List ℕ) → ys ≡ xs ++ x ∷ []
    → before ≡ old ++ flat_map f xs → after ≡ before ++ f x → after ≡ old ++ flat_map f ys
behind f xs ys x old before after more start added =
    let all : flat_map f ys ≡ flat_map f xs ++ f x =
    ap (flat_map f) more ∙ flat_map-append f xs (x ∷ []) ∙ ap (λ (rest : List ℕ). flat_map f xs ++ rest) (append-nil (f x)) in
    added ∙ ap (λ (t : List ℕ). t ++ f x) start ∙ append_assoc old (flat_map f xs) (f x) ∙ ap (λ (t : List ℕ). old ++ t) (sym all)

-- one more number of a range
pub one_number_more : (f : ℕ → List ℕ) (n : ℕ) (old before after : List ℕ) → before ≡ old ++ flat_map f (range_with_len 0 n)
    → after ≡ before ++ f n → after ≡ old ++ flat_map f (range_with_len 0 (n + 1))
one_number_more f n old before after start added =
    let next : n + 1 ≡ suc n = omega arith in
    let last : 0 + n ≡ n = omega arith in
    let more : range_with_len 0 (n + 1) ≡ range_with_len 0 n ++ n ∷ [] =
    ap (range_with_len 0) next ∙ range_more 0 n ∙ ap (λ (k : ℕ). range_with_len 0 n ++ k ∷ []) last in
    behind f (range_with_len 0 n) _ n old before after more start added

-- one more element of a list
pub one_element_more : (f : ℕ → List ℕ) (xs : List ℕ) (n x : ℕ) (old before after : List ℕ) → n < length xs → get_or xs n 0 ≡ x
    → before ≡ old ++ flat_map f (take n xs) → after ≡ before ++ f x → after ≡ old ++ flat_map f (take (n + 1) xs)
one_element_more f xs n x old before after less here start added =
    behind f (take n xs) _ x old before after (take_more xs n 0 less ∙ ap (λ (y : ℕ). take n xs ++ y ∷ []) here) start added

-- a place with no element is past the end, so all elements stand
pub past_the_end : (f : ℕ → List ℕ) (xs : List ℕ) (n : ℕ) (r : Option ℕ) (old now : List ℕ) → r ≡ slice_get xs n → r ≡ None
    → now ≡ old ++ flat_map f (take n xs) → now ≡ old ++ flat_map f xs
past_the_end f xs n r old now here none lines =
    lines ∙ ap (λ (ys : List ℕ). old ++ flat_map f ys) (take_all n xs (none_past xs n r here none))
