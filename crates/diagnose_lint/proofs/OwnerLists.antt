-- For each alternative the place of its item.
use Rattle.std.proofs.Common.{ℕ, zero, suc, ◌+◌, ◌<◌, ◌≤◌, ◌≡◌, ◌⊎◌, inl, inr, List, [], ◌∷◌, ◌++◌, length, take, get_or, sym, ap, subst, ◌∙◌, arith, length-append, min}
use Rattle.std.specs.Prelude.{replicate}
use Rattle.std.specs.Prelude.{◌-◌}
use Rattle.std.proofs.lemmas.List.{get_or_append_left, get_or-append-add, get_or-replicate, length-replicate}
use Rattle.statement.specs.Tree.{Tree}
use Rattle.statement.specs.Items.{alternatives, item_alternatives}
use Rattle.kif.specs.View.{tree_of, trees_in}
use Rattle.kif.specs.declared.expr.Expr.{Expr}
use Rattle.diagnose_lint.specs.Effects.{IsOfItem}
use Rattle.diagnose_lint.specs.Owners.{AreOwners}

side : (a b : ℕ) → (a < b) ⊎ (b ≤ a)
side a zero = inr (omega arith)
side zero (suc b) = inl (omega arith)
side (suc a) (suc b) = elim (side a b) [ inl h ↦ inl (let k = h in omega arith) | inr h ↦ inr (let k = h in omega arith) ]

-- how many alternatives stand in front of an item, and in front of the next
many_more : {A : Type 0} (es : List (Expr A)) (i : ℕ) (e : Expr A) → i < length es → e ≡ get_or es i e
    → length (alternatives (take (suc i) (trees_in es))) ≡ length (alternatives (take i (trees_in es))) + length (item_alternatives (tree_of e))
many_more [] i e h same = absurd (let bad : ⊥ = omega (arith, h) in bad)
many_more (x ∷ es) zero e h same =
    length-append (item_alternatives (tree_of x)) [] ∙ (let here = ap (λ y. length (item_alternatives (tree_of y))) same in omega (arith, here))
many_more (x ∷ es) (suc i) e h same =
    let rest = many_more es i e (omega (arith, h)) same in
    let one = length-append (item_alternatives (tree_of x)) (alternatives (take (suc i) (trees_in es))) in
    let other = length-append (item_alternatives (tree_of x)) (alternatives (take i (trees_in es))) in
    omega (arith, rest, one, other)

pub no_owners : (ts : List Tree) → AreOwners ts []
no_owners ts n d h = absurd (let bad : ⊥ = omega (arith, h) in bad)

-- the places of the items before one, and of the alternatives of that one
pub record IsOwned (ts : List Tree) (i : ℕ) (owners : List ℕ) : Type 0 where
  pub are : AreOwners ts owners
  pub many : length owners ≡ length (alternatives (take i ts))

pub owned_more : {A : Type 0} (es : List (Expr A)) (i : ℕ) (e : Expr A) (owners : List ℕ) (count most : ℕ) → i < length es → e ≡ get_or es i e
    → count ≡ min most (length (item_alternatives (tree_of e))) → count < most
    → IsOwned (trees_in es) i owners → IsOwned (trees_in es) (i + 1) (owners ++ replicate count i)
owned_more es i e owners count most h same counted less owned = subst (λ (n : ℕ). IsOwned (trees_in es) n (owners ++ replicate count i)) next
    (record { are = are; many = many })
  where
    next : suc i ≡ i + 1
    next = omega arith

    exact : count ≡ length (item_alternatives (tree_of e))
    exact = omega (arith, counted, less)

    more : length (alternatives (take (suc i) (trees_in es))) ≡ length (alternatives (take i (trees_in es))) + length (item_alternatives (tree_of e))
    more = many_more es i e h same

    long : length (owners ++ replicate count i) ≡ length owners + count
    long = length-append owners (replicate count i) ∙ ap (λ (n : ℕ). length owners + n) (length-replicate count i)

    many : length (owners ++ replicate count i) ≡ length (alternatives (take (suc i) (trees_in es)))
    many = let before = owned.many in let e = exact in let l = long in let m = more in omega (arith, before, e, l, m)

    here : (n d k : ℕ) → length owners + k ≡ n → k < count → IsOfItem (trees_in es) (get_or (owners ++ replicate count i) n d) n
    here n d k at less = subst (λ (p : ℕ). IsOfItem (trees_in es) p n) (sym place) (record {
      behind = let before = owned.many in omega (arith, before, at);
      before = let before = owned.many in let e = exact in let m = more in omega (arith, before, e, m, at, less);
    })
      where
        place : get_or (owners ++ replicate count i) n d ≡ i
        place =
            ap (λ (m : ℕ). get_or (owners ++ replicate count i) m d) (sym at)
            ∙ get_or-append-add owners (replicate count i) k d ∙ get_or-replicate count k i d less

    are : AreOwners (trees_in es) (owners ++ replicate count i)
    are n d within = pick (side n (length owners))
      where
        pick : (n < length owners) ⊎ (length owners ≤ n) → IsOfItem (trees_in es) (get_or (owners ++ replicate count i) n d) n
        pick (inl l) = subst (λ (p : ℕ). IsOfItem (trees_in es) p n) (sym (get_or_append_left owners (replicate count i) d n l))
            (owned.are n d l)
        pick (inr l) =
            let all = long in here n d (n - length owners) (omega (arith, l)) (omega (arith, l, all, within))
