-- Lists in printed order.
use Rattle.std.proofs.Common.{ℕ, Bool, true, false, cond, ◌≡◌, ◌⊎◌, ◌↔◌, inl, inr, List, [], ◌∷◌, refl, sym, ap, subst, ◌∙◌}
use Rattle.std.proofs.lemmas.Map.Lookups.{exact_bytes}
use Rattle.std.specs.Cmp.{IsTotalOrder}
use Rattle.std.specs.Cmp.Lexicographic.{on_texts}
use Rattle.std.specs.Ordering.{ordering_reverse}
use Rattle.std.specs.declared.cmp.Ordering.{Ordering}
use Rattle.std.specs.declared.cmp.Ordering.TheVariants.{Less, Equal, Greater}
use Rattle.std.proofs.lemmas.Cmp.{tied_itself}
use Rattle.statement.specs.Tree.{Tree, Trees, no_trees, tree, text, tree_eq, printed_cmp}
use Rattle.statement.specs.Lexical.{HasNames}
use Rattle.kif.proofs.Facts.{text_once}
use Rattle.statement.specs.Clause.{Atom, relation_of, is_word}
use Rattle.statement.specs.Dependence.{IsAmong}
use Rattle.statement.specs.Order.{is_less}
use Rattle.rules_profile.proofs.Facts.{IsAmong-append_left}
use Rattle.statement.specs.Meaning.{atom1, atom2}
use Rattle.meaning.specs.InOrder.{AreDistinct}
use Rattle.statement.specs.Listing.{into_printed_order, in_printed_order, one_term, terms_of, second_of, terms_with}
use Rattle.statement.specs.GoalsAndMoves.{AreInPrintedOrder}
use Rattle.meaning.proofs.Ordered.{order_append, one_list}
use Rattle.meaning.proofs.Fold.{printed_from, printed_out, terms_out, seconds_out}

pub printed_total : IsTotalOrder printed_cmp
printed_total = on_texts text

pub printed_trans : (t u v : Tree) → printed_cmp t u ≡ Less → printed_cmp u v ≡ Less → printed_cmp t v ≡ Less
printed_trans t u v a b = printed_total.trans t u v a b

pub printed_never : (t : Tree) → printed_cmp t t ≡ Less → ⊥
printed_never t h = let e = tied_itself printed_total t in absurd cc

-- two lists in printed order with the same members are one
pub one_printed : (ts us : List Tree) → AreInPrintedOrder ts → AreInPrintedOrder us → ((t : Tree) → IsAmong t ts ↔ IsAmong t us) → ts ≡ us
one_printed ts us h k same = one_list (λ (t u : Tree). printed_cmp t u ≡ Less) printed_never printed_trans ts us h k same

pub turned : (t u : Tree) → HasNames t → HasNames u → (t ≡ u → ⊥) → is_less (printed_cmp t u) ≡ false → printed_cmp u t ≡ Less
turned t u h k differ e = printed_total.antisymm u t ∙ go (printed_cmp t u) refl e
  where
    go : (o : Ordering) → printed_cmp t u ≡ o → is_less o ≡ false → ordering_reverse o ≡ Less
    go Less f g = absurd cc
    go Equal f g = absurd (differ (text_once t u h k (exact_bytes (text t) (text u) f)))
    go Greater f g = refl

less_yes : (o : Ordering) → is_less o ≡ true → o ≡ Less
less_yes Less h = refl
less_yes Equal h = absurd cc
less_yes Greater h = absurd cc

into_printed : (t : Tree) (ts : List Tree) → HasNames t → ((u : Tree) → IsAmong u ts → HasNames u) → (IsAmong t ts → ⊥) → AreInPrintedOrder ts
    → AreInPrintedOrder (into_printed_order t ts)
into_printed t [] h k new order = ((λ u a. absurd a), tt)
into_printed t (v ∷ ts) h k new order = go (is_less (printed_cmp t v)) refl (into_printed t ts h (λ u a. k u (inr a)) (λ a. new (inr a)) order.1)
  where
    first : printed_cmp t v ≡ Less → (u : Tree) → (u ≡ v) ⊎ IsAmong u ts → printed_cmp t u ≡ Less
    first e u (inl s) = subst (λ (x : Tree). printed_cmp t x ≡ Less) (sym s) e
    first e u (inr a) = printed_trans t v u e (order.0 u a)

    later : printed_cmp v t ≡ Less → (u : Tree) → (u ≡ t) ⊎ IsAmong u ts → printed_cmp v u ≡ Less
    later e u (inl s) = subst (λ (x : Tree). printed_cmp v x ≡ Less) (sym s) e
    later e u (inr a) = order.0 u a

    go : (b : Bool) → is_less (printed_cmp t v) ≡ b → AreInPrintedOrder (into_printed_order t ts)
        → AreInPrintedOrder (cond b (t ∷ (v ∷ ts)) (v ∷ into_printed_order t ts))
    go true e more = (first (less_yes _ e), order)
    go false e more = ((λ u a. later (turned t v h (k v (inl refl)) (λ s. new (inl s)) e) u (printed_from t u ts a)), more)

pub printed_order : (ts : List Tree) → ((t : Tree) → IsAmong t ts → HasNames t) → AreDistinct ts → AreInPrintedOrder (in_printed_order ts)
printed_order [] h d = tt
printed_order (t ∷ ts) h d =
    into_printed t (in_printed_order ts) (h t (inl refl)) (λ u a. h u (inr (printed_out u ts a))) (λ a. d.0 t (printed_out t ts a) refl)
    (printed_order ts (λ u a. h u (inr a)) d.1)

-- The terms of different atoms are different.

one_distinct : (ts : Trees) → AreDistinct (one_term ts)
one_distinct no_trees = tt
one_distinct (tree t no_trees) = ((λ u a. absurd a), tt)
one_distinct (tree t (tree u us)) = tt

second_distinct : (r : Tree) (ts : Trees) → AreDistinct (second_of r ts)
second_distinct r no_trees = tt
second_distinct r (tree t no_trees) = tt
second_distinct r (tree t (tree u no_trees)) = go (tree_eq t r)
  where
    go : (b : Bool) → AreDistinct (cond b (u ∷ []) [])
    go true = ((λ v a. absurd a), tt)
    go false = tt
second_distinct r (tree t (tree u (tree v vs))) = tt

if_distinct : (b : Bool) (ts : List Tree) → AreDistinct ts → AreDistinct (cond b ts [])
if_distinct true ts h = h
if_distinct false ts h = tt

pub terms_distinct : (w : List ℕ) (xs : List Atom) → AreDistinct xs → AreDistinct (terms_of w xs)
terms_distinct w [] d = tt
terms_distinct w (x ∷ xs) d =
    order_append (λ (t u : Tree). t ≡ u → ⊥) _ (terms_of w xs) (if_distinct (is_word w 1 (relation_of x)) (one_term x.terms) (one_distinct x.terms))
    (terms_distinct w xs d.1) apart
  where
    own : (t : Tree) → IsAmong (atom1 w t) (x ∷ []) → x ≡ atom1 w t
    own t (inl e) = sym e
    own t (inr a) = absurd a

    apart : (t u : Tree) → IsAmong t (cond (is_word w 1 (relation_of x)) (one_term x.terms) []) → IsAmong u (terms_of w xs) → t ≡ u → ⊥
    apart t u a b e =
        let here = own t (terms_out w t (x ∷ []) (IsAmong-append_left t (cond (is_word w 1 (relation_of x)) (one_term x.terms) []) [] a)) in
        let there = terms_out w u xs b in
        d.0 (atom1 w u) there (here ∙ ap (atom1 w) e)

pub seconds_distinct : (w : List ℕ) (r : Tree) (xs : List Atom) → AreDistinct xs → AreDistinct (terms_with w r xs)
seconds_distinct w r [] d = tt
seconds_distinct w r (x ∷ xs) d =
    order_append (λ (t u : Tree). t ≡ u → ⊥) _ (terms_with w r xs)
    (if_distinct (is_word w 2 (relation_of x)) (second_of r x.terms) (second_distinct r x.terms)) (seconds_distinct w r xs d.1) apart
  where
    own : (t : Tree) → IsAmong (atom2 w r t) (x ∷ []) → x ≡ atom2 w r t
    own t (inl e) = sym e
    own t (inr a) = absurd a

    apart : (t u : Tree) → IsAmong t (cond (is_word w 2 (relation_of x)) (second_of r x.terms) []) → IsAmong u (terms_with w r xs) → t ≡ u → ⊥
    apart t u a b e =
        let here = own t (seconds_out w r t (x ∷ []) (IsAmong-append_left t (cond (is_word w 2 (relation_of x)) (second_of r x.terms) []) [] a)) in
        let there = seconds_out w r u xs b in
        d.0 (atom2 w r u) there (here ∙ ap (atom2 w r) e)
