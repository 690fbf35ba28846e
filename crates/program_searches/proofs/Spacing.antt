-- Texts with spaces before them, one more at a time.
use Rattle.std.proofs.Common.{ℕ, suc, ◌+◌, ◌<◌, ◌≤◌, ◌≡◌, List, [], ◌∷◌, ◌++◌, length, take, drop, get_or, refl, sym, ◌∙◌, ap, append_assoc, arith, drop-cons, drop_of_length-le}
use Rattle.std.proofs.lemmas.List.{take_more, append-nil}
use Rattle.statement.specs.Checking.{spaced}

spaced-append : (xs ys : List (List ℕ)) → spaced (xs ++ ys) ≡ spaced xs ++ spaced ys
spaced-append [] ys = refl
spaced-append (x ∷ xs) ys =
    ap (λ (rest : List ℕ). 32 ∷ x ++ rest) (spaced-append xs ys) ∙ ap (λ (rest : List ℕ). 32 ∷ rest) (sym (append_assoc x (spaced xs) (spaced ys)))

-- one more text, with its space
pub spaced_more : (texts : List (List ℕ)) (n : ℕ) (old before now after : List ℕ) → n < length texts → before ≡ old ++ spaced (take n texts)
    → now ≡ before ++ 32 ∷ [] → after ≡ now ++ get_or texts n [] → after ≡ old ++ spaced (take (n + 1) texts)
spaced_more texts n old before now after less start space added =
    let text = get_or texts n [] in
    let more : spaced (take (n + 1) texts) ≡ spaced (take n texts) ++ 32 ∷ text =
    ap spaced (take_more texts n [] less) ∙ spaced-append (take n texts) (text ∷ [])
    ∙ ap (λ (rest : List ℕ). spaced (take n texts) ++ 32 ∷ rest) (append-nil text) in
    added
    ∙ ap (λ (xs : List ℕ). xs ++ text) (space ∙ ap (λ (xs : List ℕ). xs ++ 32 ∷ []) start)
    ∙ append_assoc (old ++ spaced (take n texts)) (32 ∷ []) text
    ∙ append_assoc old (spaced (take n texts)) (32 ∷ text)
    ∙ ap (λ (xs : List ℕ). old ++ xs) (sym more)

-- the text at a place and those behind it
pub spaced_next : (texts : List (List ℕ)) (n : ℕ) (t : List ℕ) → n < length texts → get_or texts n t ≡ t
    → spaced (drop n texts) ≡ (32 ∷ []) ++ (t ++ spaced (drop (n + 1) texts))
spaced_next texts n t less here =
    let next : suc n ≡ n + 1 = omega arith in
    ap spaced (drop-cons texts n t less) ∙ ap (λ (x : List ℕ). 32 ∷ x ++ spaced (drop (suc n) texts)) here
    ∙ ap (λ (k : ℕ). 32 ∷ t ++ spaced (drop k texts)) next

pub spaced_done : (texts : List (List ℕ)) (n : ℕ) → length texts ≤ n → spaced (drop n texts) ≡ []
spaced_done texts n past = ap spaced (drop_of_length-le texts past)
