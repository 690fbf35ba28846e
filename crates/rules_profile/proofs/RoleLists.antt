-- Roles at places, and the walk over the items.
use Rattle.std.proofs.Common.{ℕ, zero, suc, ◌+◌, ◌<◌, ◌≤◌, Bool, true, false, cond, ◌&&◌, ◌||◌, ◌==◌, nat_lt, ◌≡◌, List, [], ◌∷◌, ◌++◌, Option, Some}
use Rattle.std.proofs.Common.{None, length, drop, drop-cons, get_or, refl, sym, ap, subst, ◌∙◌, arith, length-append, append_assoc, not}
use Rattle.std.proofs.lemmas.List.{length-map}
use Rattle.std.proofs.lemmas.List.Elements.{All-append, All-cons}
use Rattle.statement.specs.declared.rule_fault.RuleExcess.{RuleExcess as Excess}
use Rattle.statement.specs.RuleFaults.{limit_of}
use Rattle.rules_profile.proofs.Standings.{count_parts}
use Rattle.std.specs.Prelude.{All}
use Rattle.std.proofs.lemmas.Bool.Decides.{nat_tests}
use Rattle.statement.specs.Tree.{Tree, name, list, Trees, no_trees, tree, tree_eq, trees_eq, trees_of, name_eq}
use Rattle.kif.specs.View.{tree_of, trees_in}
use Rattle.kif.specs.declared.expr.Expr.{Expr}
use Rattle.kif.proofs.Facts.{parts_from, no_parts}
use Rattle.statement.specs.Words.{w_role}
use Rattle.statement.specs.Clause.{relation_of, is_word}
use Rattle.statement.specs.Items.{atom_in, head_tree, body_trees, item_head, is_some}
use Rattle.rules_profile.specs.Parts.{HasNoWord}
use Rattle.statement.specs.Profile.{Limit, roles_limit, too_many, or_item_fault, too_many_at, first_too_many, is_tree_in, limit_passed, first_of, role_in}
use Rattle.statement.specs.Profile.{with_new, roles_from, roles}
use Rattle.rules_profile.specs.Stated.{AddsRole, AreRolePlaces, role_stated, roles_at, HasExcess, HasRoleLimitAlone}
use Rattle.statement.specs.RuleLimits.{most_roles}

-- Lists of trees compared part by part.

pub same_here : {A : Type 0} (xs ys : List (Expr A)) (i : ℕ) (x y : Expr A) → i < length xs → i < length ys → x ≡ get_or xs i x → y ≡ get_or ys i y
    → trees_eq (trees_of (trees_in (drop i xs))) (trees_of (trees_in (drop i ys)))
    ≡ (tree_eq (tree_of x) (tree_of y) && trees_eq (trees_of (trees_in (drop (i + 1) xs))) (trees_of (trees_in (drop (i + 1) ys))))
same_here xs ys i x y h k e f =
    ap (λ (ts : List Tree). trees_eq (trees_of ts) (trees_of (trees_in (drop i ys)))) (parts_from xs i x h e)
    ∙ ap (λ (us : List Tree). trees_eq (trees_of (tree_of x ∷ trees_in (drop (i + 1) xs))) (trees_of us)) (parts_from ys i y k f)

pub same_end : {A : Type 0} (xs ys : List (Expr A)) (i : ℕ) → length xs ≤ i → length xs ≡ length ys
    → trees_eq (trees_of (trees_in (drop i xs))) (trees_of (trees_in (drop i ys))) ≡ true
same_end xs ys i h e =
    ap (λ (ts : List Tree). trees_eq (trees_of ts) (trees_of (trees_in (drop i ys)))) (no_parts xs i h)
    ∙ ap (λ (us : List Tree). trees_eq no_trees (trees_of us)) (no_parts ys i (omega arith))

pub lengths_differ : {A : Type 0} (xs ys : List (Expr A)) → (length xs ≡ length ys → ⊥)
    → trees_eq (trees_of (trees_in xs)) (trees_of (trees_in ys)) ≡ false
lengths_differ [] [] d = absurd (d refl)
lengths_differ [] (y ∷ ys) d = refl
lengths_differ (x ∷ xs) [] d = refl
lengths_differ (x ∷ xs) (y ∷ ys) d =
    ap (λ (b : Bool). tree_eq (tree_of x) (tree_of y) && b) (lengths_differ xs ys (λ e. d (ap suc e))) ∙ and_false (tree_eq (tree_of x) (tree_of y))
  where
    and_false : (b : Bool) → (b && false) ≡ false
    and_false true = refl
    and_false false = refl

-- Roles at places.

pub role_stated-here : {A : Type 0} (es : List (Expr A)) (i : ℕ) (e : Expr A) → i < length es → e ≡ get_or es i e
    → role_stated (trees_in es) i ≡ role_in (tree_of e)
role_stated-here [] i e h same = absurd (omega arith)
role_stated-here (d ∷ es) zero e h same = ap (λ x. role_in (tree_of x)) (sym same)
role_stated-here (d ∷ es) (suc i) e h same = role_stated-here es i e (omega arith) same

append_none : {A : Type 0} (xs : List A) → xs ++ [] ≡ xs
append_none [] = refl
append_none (x ∷ xs) = ap (λ (l : List _). x ∷ l) (append_none xs)

roles_at-last : (items : List Tree) (ks : List ℕ) (k : ℕ) → roles_at items (ks ++ k ∷ []) ≡ roles_at items ks ++ role_stated items k
roles_at-last items [] k = append_none (role_stated items k)
roles_at-last items (j ∷ ks) k =
    ap (λ (ts : List Tree). role_stated items j ++ ts) (roles_at-last items ks k)
    ∙ sym (append_assoc (role_stated items j) (roles_at items ks) (role_stated items k))

with_new_old : (r : Tree) (rs : List Tree) → true ≡ is_tree_in r rs → with_new rs (r ∷ []) ≡ rs
with_new_old r rs h = rw (sym h) refl

with_new_new : (r : Tree) (rs : List Tree) → false ≡ is_tree_in r rs → with_new rs (r ∷ []) ≡ rs ++ r ∷ []
with_new_new r rs h = rw (sym h) refl

pub adds_none : (items : List Tree) (old : List ℕ) (place : ℕ) → AreRolePlaces items old → role_stated items place ≡ [] → AddsRole items old old place
adds_none items old place p e = record { roles = ap (with_new (roles_at items old)) (sym e); places = p }

pub adds_old : (items : List Tree) (old : List ℕ) (place : ℕ) (r : Tree) → AreRolePlaces items old → role_stated items place ≡ r ∷ []
    → true ≡ is_tree_in r (roles_at items old) → AddsRole items old old place
adds_old items old place r p e h = record {
  roles = sym (with_new_old r (roles_at items old) h) ∙ ap (with_new (roles_at items old)) (sym e);
  places =
      p;
}

pub adds_new : (items : List Tree) (old new : List ℕ) (place : ℕ) (r : Tree) → AreRolePlaces items old → place < length items
    → role_stated items place ≡ r ∷ [] → false ≡ is_tree_in r (roles_at items old)
    → new ≡ old ++ place ∷ [] → length old < most_roles → AddsRole items old new place
adds_new items old new place r p lt e h n room = record {
  roles = same ∙ sym (with_new_new r (roles_at items old) h) ∙ ap (with_new (roles_at items old)) (sym e);
  places = record {
    within = subst (All (λ k. k < length items)) (sym n)
        (All-append (λ k. k < length items) old (place ∷ []) p.within (All-cons (λ k. k < length items) place [] lt (λ k d l. absurd (omega arith))));
    each_one = let a = length-append (roles_at items old) (r ∷ []) in let b = length-append old (place ∷ []) in let c = p.each_one in let d =
        ap length same in let f = ap length n in omega arith;
    few = let b = length-append old (place ∷ []) in let f = ap length n in omega arith;
  };
}
  where
    same : roles_at items new ≡ roles_at items old ++ r ∷ []
    same = ap (roles_at items) n ∙ roles_at-last items old place ∙ ap (λ (ts : List Tree). roles_at items old ++ ts) e

pub adds_too_many : (items : List Tree) (old : List ℕ) (place : ℕ) (r : Tree) → AreRolePlaces items old → role_stated items place ≡ r ∷ []
    → false ≡ is_tree_in r (roles_at items old) → length old ≡ most_roles
    → most_roles < length (with_new (roles_at items old) (role_stated items place))
adds_too_many items old place r p e h full =
    let P : List Tree → Type 0 = λ ts. most_roles < length ts in
    subst P (sym (ap (with_new (roles_at items old)) e ∙ with_new_new r (roles_at items old) h))
    (let a = length-append (roles_at items old) (r ∷ []) in let c = p.each_one in omega arith)

-- Roles looked for.

pub one_in : (r : Tree) (ts : List Tree) (t : Tree) (b : Bool) → ts ≡ t ∷ [] → b ≡ tree_eq r t → b ≡ is_tree_in r ts
one_in r ts t b e h = h ∙ sym (or_false (tree_eq r t)) ∙ ap (is_tree_in r) (sym e)
  where
    or_false : (v : Bool) → (v || false) ≡ v
    or_false true = refl
    or_false false = refl

is_tree_in-append : (r : Tree) (ts us : List Tree) → is_tree_in r (ts ++ us) ≡ (is_tree_in r ts || is_tree_in r us)
is_tree_in-append r [] us = refl
is_tree_in-append r (t ∷ ts) us = ap (λ (v : Bool). tree_eq r t || v) (is_tree_in-append r ts us)
    ∙ or_assoc (tree_eq r t) (is_tree_in r ts) (is_tree_in r us)
  where
    or_assoc : (a b c : Bool) → (a || (b || c)) ≡ ((a || b) || c)
    or_assoc true b c = refl
    or_assoc false b c = refl

pub stated_from : {A : Type 0} (r : Tree) (es : List (Expr A)) (ks : List ℕ) (i : ℕ) (e : Expr A) → i < length ks → get_or ks i 0 < length es
    → e ≡ get_or es (get_or ks i 0) e
    → is_tree_in r (roles_at (trees_in es) (drop i ks)) ≡ (is_tree_in r (role_in (tree_of e))
    || is_tree_in r (roles_at (trees_in es) (drop (i + 1) ks)))
stated_from r es ks i e h k same =
    ap (λ (js : List ℕ). is_tree_in r (roles_at (trees_in es) js)) (drop-cons ks i 0 h)
    ∙ is_tree_in-append r (role_stated (trees_in es) (get_or ks i 0)) (roles_at (trees_in es) (drop (suc i) ks))
    ∙ ap (λ (ts : List Tree). is_tree_in r ts || is_tree_in r (roles_at (trees_in es) (drop (suc i) ks))) (role_stated-here es (get_or ks i 0) e k same)
    ∙ ap (λ (j : ℕ). is_tree_in r (role_in (tree_of e)) || is_tree_in r (roles_at (trees_in es) (drop j ks))) (let one : suc i ≡ i + 1 =
    omega arith in one)

-- The role that an item states.

pub rule_states_none : {A : Type 0} (t : Tree) (es : List (Expr A)) → body_trees t ≡ trees_of (trees_in es) → false ≡ (length es == 0)
    → role_in t ≡ []
rule_states_none t [] e h = absurd cc
rule_states_none t (x ∷ es) e h =
    ap (λ (ts : Trees). cond (is_word w_role 1 (relation_of (item_head t)) && not (is_some ts)) (first_of (item_head t).terms) []) e
    ∙ and_none (is_word w_role 1 (relation_of (item_head t))) (first_of (item_head t).terms)
  where
    and_none : (b : Bool) (ts : List Tree) → cond (b && false) ts [] ≡ []
    and_none true ts = refl
    and_none false ts = refl

pub fact_states : {A : Type 0} (t head : Tree) (es : List (Expr A)) → head_tree t ≡ head → body_trees t ≡ trees_of (trees_in es)
    → true ≡ (length es == 0)
    → role_in t ≡ cond (is_word w_role 1 (relation_of (atom_in head))) (first_of (atom_in head).terms) []
fact_states t head [] e f h =
    ap (λ (ts : Trees). cond (is_word w_role 1 (relation_of (item_head t)) && not (is_some ts)) (first_of (item_head t).terms) []) f
    ∙ ap (λ (b : Bool). cond b (first_of (item_head t).terms) []) (and_true (is_word w_role 1 (relation_of (item_head t))))
    ∙ ap (λ (u : Tree). cond (is_word w_role 1 (relation_of (atom_in u))) (first_of (atom_in u).terms) []) e
  where
    and_true : (b : Bool) → (b && true) ≡ b
    and_true true = refl
    and_true false = refl
fact_states t head (x ∷ es) e f h = absurd (let k : (suc (length es) == 0) ≡ false = grind (arith, nat_tests) in cc)

pub no_word_states_none : (ts : List Tree) → HasNoWord ts
    → cond (is_word w_role 1 (relation_of (atom_in (list (trees_of ts))))) (first_of (atom_in (list (trees_of ts))).terms) [] ≡ []
no_word_states_none [] h = refl
no_word_states_none (name w ∷ ts) h = absurd (h w ts refl)
no_word_states_none (list us ∷ ts) h = refl

-- by the word and the number of terms
pub word_states : {A : Type 0} (w : List ℕ) (terms : List (Expr A)) → true ≡ name_eq w w_role
    → cond (is_word w_role 1 (relation_of (atom_in (list (tree (name w) (trees_of (trees_in terms))))))) (first_of (trees_of (trees_in terms))) []
    ≡ cond (length terms == 1) (first_of (trees_of (trees_in terms))) []
word_states w terms h =
    ap (λ (n : ℕ). cond (name_eq w w_role && (n == 1)) (first_of (trees_of (trees_in terms))) []) (count_parts terms)
    ∙ ap (λ (b : Bool). cond (b && (length terms == 1)) (first_of (trees_of (trees_in terms))) []) (sym h)

pub other_word_states : {A : Type 0} (w : List ℕ) (terms : List (Expr A)) → false ≡ name_eq w w_role
    → cond (is_word w_role 1 (relation_of (atom_in (list (tree (name w) (trees_of (trees_in terms))))))) (first_of (trees_of (trees_in terms))) []
    ≡ []
other_word_states w terms h =
    ap (λ (n : ℕ). cond (name_eq w w_role && (n == 1)) (first_of (trees_of (trees_in terms))) []) (count_parts terms)
    ∙ ap (λ (b : Bool). cond (b && (length terms == 1)) (first_of (trees_of (trees_in terms))) []) (sym h)

-- The walk over the items.

-- after the items before i: what is left decides the rest
pub record IsListedTo {A : Type 0} (es : List (Expr A)) (i : ℕ) (places : List ℕ) : Type 0 where
  pub fault : first_too_many 1 [] (trees_in es) ≡ first_too_many (i + 1) (roles_at (trees_in es) places) (trees_in (drop i es))
  pub listed : roles (trees_in es) ≡ roles_from (roles_at (trees_in es) places) (trees_in (drop i es))
  pub are_places : AreRolePlaces (trees_in es) places

too_many_here : (n : ℕ) (rs : List Tree) (t : Tree) (ts : List Tree) (l : Limit) → limit_passed n rs t ≡ Some l
    → first_too_many n rs (t ∷ ts) ≡ Some (too_many n l)
too_many_here n rs t ts l h = ap (λ (o : Option Limit). or_item_fault (too_many_at n o) (first_too_many (suc n) (with_new rs (role_in t)) ts)) h

too_many_later : (n m : ℕ) (rs : List Tree) (t : Tree) (ts : List Tree) → m ≡ suc n → limit_passed n rs t ≡ None
    → first_too_many n rs (t ∷ ts) ≡ first_too_many m (with_new rs (role_in t)) ts
too_many_later n m rs t ts e h =
    ap (λ (o : Option Limit). or_item_fault (too_many_at n o) (first_too_many (suc n) (with_new rs (role_in t)) ts)) h
    ∙ ap (λ (k : ℕ). first_too_many k (with_new rs (role_in t)) ts) (sym e)

pub excess_here : {A : Type 0} (es : List (Expr A)) (i : ℕ) (e : Expr A) (places : List ℕ) (excess : Excess) → IsListedTo es i places → i < length es
    → e ≡ get_or es i e
    → HasExcess (i + 1) (tree_of e) excess → first_too_many 1 [] (trees_in es) ≡ Some (too_many (i + 1) (limit_of excess))
excess_here es i e places excess l h same x =
    l.fault ∙ ap (first_too_many (i + 1) (roles_at (trees_in es) places)) (parts_from es i e h same)
    ∙ too_many_here (i + 1) (roles_at (trees_in es) places) (tree_of e) _ (limit_of excess) (x (roles_at (trees_in es) places))

above : (n : ℕ) → most_roles < n → nat_lt most_roles n ≡ true
above n h = grind (arith, nat_tests)

not_above : (n : ℕ) → n ≤ most_roles → nat_lt most_roles n ≡ false
not_above n h = grind (arith, nat_tests)

pub roles_here : {A : Type 0} (es : List (Expr A)) (i : ℕ) (e : Expr A) (places : List ℕ) → IsListedTo es i places → i < length es → e ≡ get_or es i e
    → HasRoleLimitAlone (i + 1) (tree_of e) → most_roles < length (with_new (roles_at (trees_in es) places) (role_stated (trees_in es) i))
    → first_too_many 1 [] (trees_in es) ≡ Some (too_many (i + 1) roles_limit)
roles_here es i e places l h same x many =
    l.fault ∙ ap (first_too_many (i + 1) (roles_at (trees_in es) places)) (parts_from es i e h same)
    ∙ too_many_here (i + 1) (roles_at (trees_in es) places) (tree_of e) _ roles_limit
    (x (roles_at (trees_in es) places)
    ∙ ap (λ (ts : List Tree). cond (nat_lt most_roles (length (with_new (roles_at (trees_in es) places) ts))) (Some roles_limit) None)
    (sym (role_stated-here es i e h same))
    ∙ ap (λ (b : Bool). cond b (Some roles_limit) None) (above _ many))

pub listed_more : {A : Type 0} (es : List (Expr A)) (i : ℕ) (e : Expr A) (places more : List ℕ) → IsListedTo es i places → i < length es
    → e ≡ get_or es i e
    → HasRoleLimitAlone (i + 1) (tree_of e) → AddsRole (trees_in es) places more i → IsListedTo es (i + 1) more
listed_more es i e places more l h same x a =
    let here = role_stated-here es i e h same in
    let new : roles_at (trees_in es) more ≡ with_new (roles_at (trees_in es) places) (role_in (tree_of e)) = a.roles
    ∙ ap (with_new (roles_at (trees_in es) places)) here in
    let size = ap length new in
    let few = a.places.few in
    let each = a.places.each_one in
    let low : length (with_new (roles_at (trees_in es) places) (role_in (tree_of e))) ≤ most_roles = omega arith in
    record {
      fault = l.fault ∙ ap (first_too_many (i + 1) (roles_at (trees_in es) places)) (parts_from es i e h same)
          ∙ too_many_later (i + 1) (i + 1 + 1) (roles_at (trees_in es) places) (tree_of e) (trees_in (drop (i + 1) es)) (omega arith)
          (x (roles_at (trees_in es) places) ∙ ap (λ (b : Bool). cond b (Some roles_limit) None) (not_above _ low))
          ∙ ap (λ (rs : List Tree). first_too_many (i + 1 + 1) rs (trees_in (drop (i + 1) es))) (sym new);
      listed = l.listed ∙ ap (roles_from (roles_at (trees_in es) places)) (parts_from es i e h same)
          ∙ ap (λ (rs : List Tree). roles_from rs (trees_in (drop (i + 1) es))) (sym new);
      are_places = a.places;
    }

pub listed_all : {A : Type 0} (es : List (Expr A)) (i : ℕ) (places : List ℕ) → IsListedTo es i places → length es ≤ i
    → (first_too_many 1 [] (trees_in es) ≡ None) × (roles_at (trees_in es) places ≡ roles (trees_in es))
listed_all es i places l h = (
  l.fault ∙ ap (first_too_many (i + 1) (roles_at (trees_in es) places)) (no_parts es i h),
  sym (l.listed ∙ ap (roles_from (roles_at (trees_in es) places)) (no_parts es i h)),
)

pub begin_list : {A : Type 0} (es : List (Expr A)) (places : List ℕ) → places ≡ [] → IsListedTo es 0 places
begin_list es places e = subst (IsListedTo es 0) (sym e) (record {
  fault = refl;
  listed = refl;
  are_places = record { within = λ k d l. absurd (omega arith); each_one = refl; few = omega arith };
})

-- what a fact of `role` with one term states, and one with another number of terms
pub one_term : {A : Type 0} (terms : List (Expr A)) (r : Expr A) → length terms ≡ 1 → r ≡ get_or terms 0 r
    → cond (length terms == 1) (first_of (trees_of (trees_in terms))) [] ≡ tree_of r ∷ []
one_term [] r h same = absurd (omega arith)
one_term (t ∷ []) r h same = ap (λ x. tree_of x ∷ []) (sym same)
one_term (t ∷ u ∷ terms) r h same = absurd (omega arith)

pub other_terms : {A : Type 0} (terms : List (Expr A)) → (length terms ≡ 1 → ⊥)
    → cond (length terms == 1) (first_of (trees_of (trees_in terms))) [] ≡ []
other_terms terms d = go (length terms) d
  where
    go : (n : ℕ) → (n ≡ 1 → ⊥) → cond (n == 1) (first_of (trees_of (trees_in terms))) [] ≡ []
    go n d = ap (λ (b : Bool). cond b (first_of (trees_of (trees_in terms))) []) (let k : (n == 1) ≡ false = grind (arith, nat_tests, d) in k)

pub placed : {A : Type 0} (es : List (Expr A)) (k : ℕ) → k < length es → k < length (trees_in es)
placed {A} es k h = let size = length-map es (tree_of {A = A}) in omega arith
