-- Counting up to a number that stands for all greater ones.
use Rattle.std.proofs.Common.{ℕ, ◌==◌, nat_lt, zero, suc, min, ◌+◌, ◌*◌, ◌<◌, ◌≤◌, ◌≡◌, List, [], ◌∷◌, length, drop, get_or, refl, sym, ap, ◌∙◌, ◌⊎◌}
use Rattle.std.proofs.Common.{inl, inr, arith, length-append}
use Rattle.std.proofs.Math.Nat.{mul-suc, mul_comm, mul_assoc}
use Rattle.std.proofs.lemmas.List.{length-map}
use Rattle.std.proofs.lemmas.Bool.Decides.{nat_tests}
use Rattle.statement.specs.Tree.{Tree, name, list, Trees, tree, trees_of}
use Rattle.kif.specs.View.{tree_of, trees_in}
use Rattle.kif.specs.declared.expr.Expr.{Expr}
use Rattle.kif.proofs.Facts.{parts_from}
use Rattle.statement.specs.Clause.{Literal}
use Rattle.statement.specs.Items.{readings, readings_in_turn, readings_of_all, behind_each, picks, item_alternatives, item_head, body_trees}
use Rattle.statement.specs.Words.{w_or, w_and}
use Rattle.rules_profile.specs.Parts.{HasNoWord}
use Rattle.statement.specs.RuleLimits.{most_alternatives}

length-behind_each : (a : List Literal) (bs : List (List Literal)) → length (behind_each a bs) ≡ length bs
length-behind_each a [] = refl
length-behind_each a (b ∷ bs) = ap suc (length-behind_each a bs)

pub length-picks : (as' bs : List (List Literal)) → length (picks as' bs) ≡ length as' * length bs
length-picks [] bs = omega arith
length-picks (a ∷ as') bs =
    let here = length-append (behind_each a bs) (picks as' bs) in
    let one = length-behind_each a bs in
    let more = length-picks as' bs in
    grind (arith, here, one, more)

-- what is counted, before a part and behind it

pub readings_in_turn-more : {A : Type 0} (es : List (Expr A)) (i : ℕ) (e : Expr A) → i < length es → e ≡ get_or es i e
    → length (readings_in_turn (trees_of (trees_in (drop i es)))) ≡ length (readings (tree_of e)) + length
    (readings_in_turn (trees_of (trees_in (drop (i + 1) es))))
readings_in_turn-more es i e h same =
    ap (λ (ts : List Tree). length (readings_in_turn (trees_of ts))) (parts_from es i e h same) ∙ length-append (readings (tree_of e)) _

pub readings_of_all-more : {A : Type 0} (es : List (Expr A)) (i : ℕ) (e : Expr A) → i < length es → e ≡ get_or es i e
    → length (readings_of_all (trees_of (trees_in (drop i es)))) ≡ length (readings (tree_of e)) * length
    (readings_of_all (trees_of (trees_in (drop (i + 1) es))))
readings_of_all-more es i e h same =
    ap (λ (ts : List Tree). length (readings_of_all (trees_of ts))) (parts_from es i e h same) ∙ length-picks (readings (tree_of e)) _

-- a sum and a product up to a number

min_sum : (c x y : ℕ) → min (suc most_alternatives) (min (suc most_alternatives) (c + min (suc most_alternatives) x) + y)
    ≡ min (suc most_alternatives) (c + (x + y))
min_sum c x y = omega arith

either_way : (a b : ℕ) → (a ≤ b) ⊎ (b ≤ a)
either_way zero b = inl (omega arith)
either_way (suc a) zero = inr (omega arith)
either_way (suc a) (suc b) = elim (either_way a b) [ inl h ↦ inl (let k = h in omega arith) | inr h ↦ inr (let k = h in omega arith) ]

min_times : (a b : ℕ) → min (suc most_alternatives) (min (suc most_alternatives) a * b) ≡ min (suc most_alternatives) (a * b)
min_times a zero = omega arith
min_times a (suc b) = go (either_way a (suc most_alternatives))
  where
    go : (a ≤ suc most_alternatives) ⊎ (suc most_alternatives ≤ a)
        → min (suc most_alternatives) (min (suc most_alternatives) a * suc b) ≡ min (suc most_alternatives) (a * suc b)
    go (inl h) = ap (λ (k : ℕ). min (suc most_alternatives) (k * suc b)) (let e : min (suc most_alternatives) a ≡ a = omega arith in e)
    go (inr h) = let d = mul-suc a b in let f = mul-suc (min (suc most_alternatives) a) b in omega arith

min_times_right : (a b : ℕ) → min (suc most_alternatives) (a * min (suc most_alternatives) b) ≡ min (suc most_alternatives) (a * b)
min_times_right a b =
    ap (min (suc most_alternatives)) (mul_comm a (min (suc most_alternatives) b)) ∙ min_times b a ∙ ap (min (suc most_alternatives)) (mul_comm b a)

min_product : (c x y : ℕ) → min (suc most_alternatives) (min (suc most_alternatives) (c * min (suc most_alternatives) x) * y)
    ≡ min (suc most_alternatives) (c * (x * y))
min_product c x y =
    min_times (c * min (suc most_alternatives) x) y
    ∙ ap (min (suc most_alternatives)) (mul_assoc c (min (suc most_alternatives) x) y)
    ∙ ap (min (suc most_alternatives)) (sym (mul_assoc c (min (suc most_alternatives) x) y)
    ∙ ap (λ (k : ℕ). k * y) (mul_comm c (min (suc most_alternatives) x)) ∙ mul_assoc (min (suc most_alternatives) x) c y)
    ∙ min_times x (c * y)
    ∙ ap (min (suc most_alternatives)) (sym (mul_assoc x c y) ∙ ap (λ (k : ℕ). k * y) (mul_comm x c) ∙ mul_assoc c x y)

pub sum_more : (whole c c' x m y y' : ℕ) → whole ≡ min (suc most_alternatives) (c + y') → y' ≡ x + y → m ≡ min (suc most_alternatives) x
    → c' ≡ min (c + m) (suc most_alternatives) → whole ≡ min (suc most_alternatives) (c' + y)
sum_more whole c c' x m y y' e f g h = let k = min_sum c x y in omega arith

pub product_more : (whole c c' x m y y' : ℕ) → whole ≡ min (suc most_alternatives) (c * y') → y' ≡ x * y → m ≡ min (suc most_alternatives) x
    → c' ≡ min (c * m) (suc most_alternatives) → whole ≡ min (suc most_alternatives) (c' * y)
product_more whole c c' x m y y' e f g h =
    e ∙ ap (λ (k : ℕ). min (suc most_alternatives) (c * k)) f ∙ sym (min_product c x y)
    ∙ ap (λ (k : ℕ). min (suc most_alternatives) (k * y)) (ap (λ (k : ℕ). min (suc most_alternatives) (c * k)) (sym g)
    ∙ (let turn : min (suc most_alternatives) (c * m) ≡ c' = omega arith in turn))

-- what a list is counted as

pub no_word_no_reading : (ts : List Tree) → HasNoWord ts → readings (list (trees_of ts)) ≡ []
no_word_no_reading [] h = refl
no_word_no_reading (name w ∷ ts) h = absurd (h w ts refl)
no_word_no_reading (list us ∷ ts) h = refl

pub readings_of_or : (w : List ℕ) (rest : Trees) → w ≡ w_or → readings (list (tree (name w) rest)) ≡ readings_in_turn rest
readings_of_or w rest e = ap (λ (v : List ℕ). readings (list (tree (name v) rest))) e

pub readings_of_and : (w : List ℕ) (rest : Trees) → w ≡ w_and → readings (list (tree (name w) rest)) ≡ readings_of_all rest
readings_of_and w rest e = ap (λ (v : List ℕ). readings (list (tree (name v) rest))) e

-- the count at the limit stands for more than 64
pub many_tested : (n : ℕ) → (min (suc most_alternatives) n == suc most_alternatives) ≡ nat_lt most_alternatives n
many_tested n = grind (arith, nat_tests)

pub length-item_alternatives : (t : Tree) → length (item_alternatives t) ≡ length (readings_of_all (body_trees t))
length-item_alternatives t = length-map (readings_of_all (body_trees t)) (λ (b : List Literal). record { head = item_head t; body = b })

pub counted : (t : Tree) (body : Trees) (n : ℕ) → body_trees t ≡ body → n ≡ min (suc most_alternatives) (length (readings_of_all body))
    → (n == suc most_alternatives) ≡ nat_lt most_alternatives (length (item_alternatives t))
counted t body n e f =
    ap (λ (k : ℕ). k == suc most_alternatives) (f ∙ ap (λ (ts : Trees). min (suc most_alternatives) (length (readings_of_all ts))) (sym e))
    ∙ many_tested (length (readings_of_all (body_trees t)))
    ∙ ap (nat_lt most_alternatives) (sym (length-item_alternatives t))
