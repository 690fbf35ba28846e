-- Counting up to a number that stands for all greater ones.
use Rattle.std.proofs.Common.{ℕ, zero, suc, min, ◌+◌, ◌*◌, ◌<◌, ◌≤◌, ◌≡◌, List, [], ◌∷◌, length, drop, get_or, refl, sym, ap, ◌∙◌, ◌⊎◌}
use Rattle.std.proofs.Common.{inl, inr, arith, length-append}
use Rattle.std.proofs.Math.Nat.{mul-suc, mul_comm, mul_assoc}
use Rattle.std.proofs.lemmas.List.{length-map}
use Rattle.statement.specs.Tree.{Tree, name, list, Trees, trees_of}
use Rattle.kif.specs.View.{tree_of, trees_in}
use Rattle.kif.specs.declared.expr.Expr.{Expr}
use Rattle.kif.proofs.Facts.{parts_from}
use Rattle.statement.specs.Clause.{Literal}
use Rattle.statement.specs.Items.{readings, readings_in_turn, readings_of_all, behind_each, picks, item_alternatives, item_head, body_trees}
use Rattle.rules_profile.specs.Parts.{HasNoWord}

length-behind_each : (a : List Literal) (bs : List (List Literal)) → length (behind_each a bs) ≡ length bs
length-behind_each a [] = refl
length-behind_each a (b ∷ bs) = ap suc (length-behind_each a bs)

length-picks : (as' bs : List (List Literal)) → length (picks as' bs) ≡ length as' * length bs
length-picks [] bs = omega arith
length-picks (a ∷ as') bs =
    let here = length-append (behind_each a bs) (picks as' bs) in
    let one = length-behind_each a bs in
    let more = length-picks as' bs in
    grind (arith, here, one, more)

-- what is counted, before a part and behind it

pub readings_in_turn-more : {A : Type 0} (es : List (Expr A)) (i : ℕ) (e : Expr A) → i < length es → e ≡ get_or es i e
    → length (readings_in_turn (trees_of (trees_in (drop i es)))) ≡ length (readings (tree_of e)) + length
    (readings_in_turn (trees_of (trees_in (drop (i + 1) es))))
readings_in_turn-more es i e h same =
    ap (λ (ts : List Tree). length (readings_in_turn (trees_of ts))) (parts_from es i e h same) ∙ length-append (readings (tree_of e)) _

pub readings_of_all-more : {A : Type 0} (es : List (Expr A)) (i : ℕ) (e : Expr A) → i < length es → e ≡ get_or es i e
    → length (readings_of_all (trees_of (trees_in (drop i es)))) ≡ length (readings (tree_of e)) * length
    (readings_of_all (trees_of (trees_in (drop (i + 1) es))))
readings_of_all-more es i e h same =
    ap (λ (ts : List Tree). length (readings_of_all (trees_of ts))) (parts_from es i e h same) ∙ length-picks (readings (tree_of e)) _

-- a sum and a product up to a number

min_sum : (most c x y : ℕ) → min most (min most (c + min most x) + y) ≡ min most (c + (x + y))
min_sum most c x y = omega arith

either_way : (a b : ℕ) → (a ≤ b) ⊎ (b ≤ a)
either_way zero b = inl (omega arith)
either_way (suc a) zero = inr (omega arith)
either_way (suc a) (suc b) = elim (either_way a b) [ inl h ↦ inl (let k = h in omega arith) | inr h ↦ inr (let k = h in omega arith) ]

min_times : (most a b : ℕ) → min most (min most a * b) ≡ min most (a * b)
min_times most a zero = omega arith
min_times most a (suc b) = go (either_way a most)
  where
    go : (a ≤ most) ⊎ (most ≤ a) → min most (min most a * suc b) ≡ min most (a * suc b)
    go (inl h) = ap (λ (k : ℕ). min most (k * suc b)) (let e : min most a ≡ a = omega arith in e)
    go (inr h) = let d = mul-suc a b in let f = mul-suc (min most a) b in omega arith

min_product : (most c x y : ℕ) → min most (min most (c * min most x) * y) ≡ min most (c * (x * y))
min_product most c x y =
    min_times most (c * min most x) y
    ∙ ap (min most) (mul_assoc c (min most x) y)
    ∙ ap (min most) (sym (mul_assoc c (min most x) y)
    ∙ ap (λ (k : ℕ). k * y) (mul_comm c (min most x)) ∙ mul_assoc (min most x) c y)
    ∙ min_times most x (c * y)
    ∙ ap (min most) (sym (mul_assoc x c y) ∙ ap (λ (k : ℕ). k * y) (mul_comm x c) ∙ mul_assoc c x y)

pub sum_more : (most whole c c' x m y y' : ℕ) → whole ≡ min most (c + y') → y' ≡ x + y → m ≡ min most x → c' ≡ min most (c + m)
    → whole ≡ min most (c' + y)
sum_more most whole c c' x m y y' e f g h =
    e ∙ ap (λ (k : ℕ). min most (c + k)) f ∙ sym (min_sum most c x y)
    ∙ ap (λ (k : ℕ). min most (k + y)) (ap (λ (k : ℕ). min most (c + k)) (sym g) ∙ sym h)

pub product_more : (most whole c c' x m y y' : ℕ) → whole ≡ min most (c * y') → y' ≡ x * y → m ≡ min most x → c' ≡ min most (c * m)
    → whole ≡ min most (c' * y)
product_more most whole c c' x m y y' e f g h =
    e ∙ ap (λ (k : ℕ). min most (c * k)) f ∙ sym (min_product most c x y)
    ∙ ap (λ (k : ℕ). min most (k * y)) (ap (λ (k : ℕ). min most (c * k)) (sym g) ∙ sym h)

pub within_most : (most a : ℕ) (n : ℕ) → n ≡ min most a → n ≤ most
within_most most a n e = omega (arith, e)

-- what a list is counted as

pub no_word_no_reading : (ts : List Tree) → HasNoWord ts → readings (list (trees_of ts)) ≡ []
no_word_no_reading [] h = refl
no_word_no_reading (name w ∷ ts) h = absurd (h w ts refl)
no_word_no_reading (list us ∷ ts) h = refl

length-item_alternatives : (t : Tree) → length (item_alternatives t) ≡ length (readings_of_all (body_trees t))
length-item_alternatives t = length-map (readings_of_all (body_trees t)) (λ (b : List Literal). record { head = item_head t; body = b })

pub counted : (most : ℕ) (t : Tree) (body : Trees) (n : ℕ) → body_trees t ≡ body → n ≡ min most (length (readings_of_all body))
    → n ≡ min most (length (item_alternatives t))
counted most t body n e f =
    f ∙ ap (λ (ts : Trees). min most (length (readings_of_all ts))) (sym e) ∙ ap (min most) (sym (length-item_alternatives t))
