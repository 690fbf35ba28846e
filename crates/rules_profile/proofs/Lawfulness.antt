-- The tests of a list of items say what the relations say.
use Rattle.std.proofs.Common.{ℕ, zero, suc, ◌+◌, ◌≤◌, Bool, true, false, not, cond, ◌&&◌, ◌||◌, ◌==◌, nat_lt, ◌≡◌, ◌⊎◌, inl, inr, List, [], ◌∷◌, ◌++◌}
use Rattle.std.proofs.Common.{length, refl, sym, ap, subst, ◌∙◌, arith, Option, Some, None, eqb-true, eq-eqb, length-append}
use Rattle.std.proofs.lemmas.Bool.Decides.{nat_tests}
use Rattle.statement.specs.Tree.{Tree, Trees, no_trees, tree, name_eq}
use Rattle.kif.proofs.Facts.{both, true_and, name_eq_yes, name_eq_self}
use Rattle.statement.specs.Words.{w_role, w_base, w_input, w_init, w_legal, w_goal, w_terminal}
use Rattle.statement.specs.Clause.{Literal, Alternative, Relation, relation_of, relation_eq, atom_of, is_word}
use Rattle.statement.specs.Dependence.{IsAmong, is_distinct, DependsDirectly, DependsIn, Depends, IsAcyclic, IsFixed, has_edge, dependences, is_fixed}
use Rattle.statement.specs.Items.{is_item, item_head, item_alternatives, body_trees, alternatives, is_some}
use Rattle.statement.specs.Safety.{variables, variables_in, is_binding, bound, needed, is_name_in, are_names_in, is_safe, are_safe, count_different}
use Rattle.statement.specs.Profile.{ItemFault, Limit, rules_limit, variables_limit, alternatives_limit, roles_limit, limit_passed, too_many_at}
use Rattle.statement.specs.Profile.{first_too_many, with_new, role_in, roles_from, is_tree_in, or_item_fault, first_failing, bad_form, bad_keyword, not_safe}
use Rattle.statement.specs.Profile.{recursive, bad_dependence, none_of, Use, uses, heads_well, stands_well, body_stands_well, bodies_stand_well}
use Rattle.statement.specs.Profile.{is_empty, is_role_well, misuses_word, is_unsafe, is_recursive, some_body, some_literal, does_relation}
use Rattle.statement.specs.Profile.{rests_on_move, depends_badly, roles, HasNoFault}
use Rattle.rules_profile.specs.Lawful.{MayStand, UsesWordsWell, IsBound, IsSafe, KeepsLimits, relation, RestsWell, IsLawfulProfile}
use Rattle.statement.specs.RuleLimits.{most_items, most_variables, most_alternatives, most_roles}
use Rattle.rules_profile.proofs.Equality.{relation_eq_yes, relation_eq_self}
use Rattle.rules_profile.proofs.Tests.{or_cases, or_left, or_right, not_true, IsAmong-append, IsAmong-append_left, IsAmong-append_right}
use Rattle.rules_profile.proofs.Accepted.{or_none, none_fails, accepted_acyclic, rule_item, same_head, not_not, right_if, fixed_tested, body_found}
use Rattle.rules_profile.proofs.Closure.{table_sound, table_complete}

-- Words and places.

-- "if the names are equal, the number and the place are right" as a test
place_test : (w v : List ℕ) (m n : ℕ) (b : Bool) → (not (name_eq w v) || ((m == n) && b)) ≡ true → w ≡ v → (m ≡ n) × (b ≡ true)
place_test w v m n b h e =
    let k = right_if (not (name_eq w v)) ((m == n) && b) (ap not (subst (λ (x : List ℕ). name_eq w x ≡ true) e (name_eq_self w))) h in
    let p = both (m == n) b k in
    (eqb-true m n p.0, p.1)

place_tested : (w v : List ℕ) (m n : ℕ) (b : Bool) → (w ≡ v → (m ≡ n) × (b ≡ true)) → (not (name_eq w v) || ((m == n) && b)) ≡ true
place_tested w v m n b h = go (name_eq w v) refl
  where
    go : (t : Bool) → name_eq w v ≡ t → (not t || ((m == n) && b)) ≡ true
    go true e = let p = h (name_eq_yes w v e) in true_and (m == n) b (eq-eqb m n p.0) p.1
    go false e = refl

heads_said : (p : Relation) (us : List Use) → heads_well p us ≡ true → (u : Use) → IsAmong u us → p.word ≡ u.word
    → (p.arity ≡ u.arity) × (u.heads ≡ true)
heads_said p [] h u a = absurd a
heads_said p (v ∷ us) h u (inl e) = subst (λ (x : Use). p.word ≡ x.word → (p.arity ≡ x.arity) × (x.heads ≡ true)) (sym e)
    (place_test p.word v.word p.arity v.arity v.heads (both (not (name_eq p.word v.word) || ((p.arity == v.arity) && v.heads)) (heads_well p us) h).0)
heads_said p (v ∷ us) h u (inr a) =
    heads_said p us (both (not (name_eq p.word v.word) || ((p.arity == v.arity) && v.heads)) (heads_well p us) h).1 u a

heads_found : (p : Relation) (us : List Use) → ((u : Use) → IsAmong u us → p.word ≡ u.word → (p.arity ≡ u.arity) × (u.heads ≡ true))
    → heads_well p us ≡ true
heads_found p [] h = refl
heads_found p (v ∷ us) h = true_and (not (name_eq p.word v.word) || ((p.arity == v.arity) && v.heads)) (heads_well p us)
    (place_tested p.word v.word p.arity v.arity v.heads (h v (inl refl))) (heads_found p us (λ u a. h u (inr a)))

stands_said : (p : Relation) (us : List Use) → stands_well p us ≡ true → (u : Use) → IsAmong u us → p.word ≡ u.word
    → (p.arity ≡ u.arity) × (u.bodies ≡ true)
stands_said p [] h u a = absurd a
stands_said p (v ∷ us) h u (inl e) = subst (λ (x : Use). p.word ≡ x.word → (p.arity ≡ x.arity) × (x.bodies ≡ true)) (sym e)
    (place_test p.word v.word p.arity v.arity v.bodies
    (both (not (name_eq p.word v.word) || ((p.arity == v.arity) && v.bodies)) (stands_well p us) h).0)
stands_said p (v ∷ us) h u (inr a) =
    stands_said p us (both (not (name_eq p.word v.word) || ((p.arity == v.arity) && v.bodies)) (stands_well p us) h).1 u a

stands_found : (p : Relation) (us : List Use) → ((u : Use) → IsAmong u us → p.word ≡ u.word → (p.arity ≡ u.arity) × (u.bodies ≡ true))
    → stands_well p us ≡ true
stands_found p [] h = refl
stands_found p (v ∷ us) h = true_and (not (name_eq p.word v.word) || ((p.arity == v.arity) && v.bodies)) (stands_well p us)
    (place_tested p.word v.word p.arity v.arity v.bodies (h v (inl refl))) (stands_found p us (λ u a. h u (inr a)))

body_said : (ls : List Literal) → body_stands_well ls ≡ true → (l : Literal) → IsAmong l ls → MayStand (relation_of (atom_of l))
body_said [] h l a = absurd a
body_said (m ∷ ls) h l (inl e) =
    subst (λ (x : Literal). MayStand (relation_of (atom_of x))) (sym e)
    (stands_said (relation_of (atom_of m)) uses (both (stands_well (relation_of (atom_of m)) uses) (body_stands_well ls) h).0)
body_said (m ∷ ls) h l (inr a) = body_said ls (both (stands_well (relation_of (atom_of m)) uses) (body_stands_well ls) h).1 l a

body_found' : (ls : List Literal) → ((l : Literal) → IsAmong l ls → MayStand (relation_of (atom_of l))) → body_stands_well ls ≡ true
body_found' [] h = refl
body_found' (m ∷ ls) h = true_and (stands_well (relation_of (atom_of m)) uses) (body_stands_well ls)
    (stands_found (relation_of (atom_of m)) uses (h m (inl refl))) (body_found' ls (λ l a. h l (inr a)))

bodies_said : (rs : List Alternative) → bodies_stand_well rs ≡ true → (rule : Alternative) → IsAmong rule rs → (l : Literal) → IsAmong l rule.body
    → MayStand (relation_of (atom_of l))
bodies_said [] h rule a l b = absurd a
bodies_said (r ∷ rs) h rule (inl e) l b = body_said r.body (both (body_stands_well r.body) (bodies_stand_well rs) h).0 l
    (subst (λ (x : Alternative). IsAmong l x.body) e b)
bodies_said (r ∷ rs) h rule (inr a) l b = bodies_said rs (both (body_stands_well r.body) (bodies_stand_well rs) h).1 rule a l b

bodies_found : (rs : List Alternative) → ((rule : Alternative) → IsAmong rule rs → (l : Literal) → IsAmong l rule.body
    → MayStand (relation_of (atom_of l))) → bodies_stand_well rs ≡ true
bodies_found [] h = refl
bodies_found (r ∷ rs) h = true_and (body_stands_well r.body) (bodies_stand_well rs) (body_found' r.body (h r (inl refl)))
    (bodies_found rs (λ rule a. h rule (inr a)))

none_there : (ts : Trees) → not (is_some ts) ≡ true → ts ≡ no_trees
none_there no_trees h = refl
none_there (tree t ts) h = absurd cc

empty_list : (ns : List (List ℕ)) → is_empty ns ≡ true → ns ≡ []
empty_list [] h = refl
empty_list (n ∷ ns) h = absurd cc

pub words_said : (t : Tree) → misuses_word t ≡ false → UsesWordsWell t
words_said t h =
    let k = both (heads_well (relation_of (item_head t)) uses) (bodies_stand_well (item_alternatives t) && is_role_well t) (not_not _ h) in
    let m = both (bodies_stand_well (item_alternatives t)) (is_role_well t) k.1 in
    record {
      head = heads_said (relation_of (item_head t)) uses k.0;
      body = bodies_said (item_alternatives t) m.0;
      role = λ e.
          let here : not (name_eq (item_head t).word w_role) ≡ false =
          ap not (subst (λ (x : List ℕ). name_eq (item_head t).word x ≡ true) e (name_eq_self (item_head t).word)) in
          let r = both (not (is_some (body_trees t))) (is_empty (variables_in (item_head t).terms)) (right_if _ _ here m.1) in
          (none_there (body_trees t) r.0, empty_list _ r.1);
    }

pub words_found : (t : Tree) → UsesWordsWell t → misuses_word t ≡ false
words_found t w =
    ap not (true_and (heads_well (relation_of (item_head t)) uses) (bodies_stand_well (item_alternatives t) && is_role_well t)
    (heads_found (relation_of (item_head t)) uses w.head)
    (true_and (bodies_stand_well (item_alternatives t)) (is_role_well t) (bodies_found (item_alternatives t) w.body)
    (role (name_eq (item_head t).word w_role) refl)))
  where
    role : (b : Bool) → name_eq (item_head t).word w_role ≡ b
        → (not b || (not (is_some (body_trees t)) && is_empty (variables_in (item_head t).terms))) ≡ true
    role true e =
        let r = w.role (name_eq_yes (item_head t).word w_role e) in
        true_and (not (is_some (body_trees t))) (is_empty (variables_in (item_head t).terms)) (ap (λ (ts : Trees). not (is_some ts)) r.0)
        (ap is_empty r.1)
    role false e = refl

-- Safety.

name_said : (n : List ℕ) (ms : List (List ℕ)) → is_name_in n ms ≡ true → IsAmong n ms
name_said n [] h = absurd cc
name_said n (m ∷ ms) h = elim (or_cases (name_eq n m) (is_name_in n ms) h) [ inl e ↦ inl (name_eq_yes n m e) | inr k ↦ inr (name_said n ms k) ]

name_found : (n : List ℕ) (ms : List (List ℕ)) → IsAmong n ms → is_name_in n ms ≡ true
name_found n [] a = absurd a
name_found n (m ∷ ms) (inl e) = or_left (name_eq n m) (is_name_in n ms) (subst (λ (x : List ℕ). name_eq n x ≡ true) e (name_eq_self n))
name_found n (m ∷ ms) (inr a) = or_right (name_eq n m) (is_name_in n ms) (name_found n ms a)

names_said : (ns ms : List (List ℕ)) → are_names_in ns ms ≡ true → (n : List ℕ) → IsAmong n ns → IsAmong n ms
names_said [] ms h n a = absurd a
names_said (m ∷ ns) ms h n (inl e) =
    name_said n ms (subst (λ (x : List ℕ). is_name_in x ms ≡ true) (sym e) (both (is_name_in m ms) (are_names_in ns ms) h).0)
names_said (m ∷ ns) ms h n (inr a) = names_said ns ms (both (is_name_in m ms) (are_names_in ns ms) h).1 n a

names_found : (ns ms : List (List ℕ)) → ((n : List ℕ) → IsAmong n ns → IsAmong n ms) → are_names_in ns ms ≡ true
names_found [] ms h = refl
names_found (m ∷ ns) ms h = true_and (is_name_in m ms) (are_names_in ns ms) (name_found m ms (h m (inl refl)))
    (names_found ns ms (λ n a. h n (inr a)))

bound_more : (n : List ℕ) (l : Literal) (ls : List Literal) → IsBound n ls → IsBound n (l ∷ ls)
bound_more n l ls b = record { literal = b.literal; in_body = inr b.in_body; binds = b.binds; has = b.has }

bound_said : (n : List ℕ) (ls : List Literal) → IsAmong n (bound ls) → IsBound n ls
bound_said n [] a = absurd a
bound_said n (l ∷ ls) a = go (is_binding l) refl (IsAmong-append n (cond (is_binding l) (variables_in (atom_of l).terms) []) (bound ls) a)
    (bound_said n ls)
  where
    go : (b : Bool) → is_binding l ≡ b → IsAmong n (cond b (variables_in (atom_of l).terms) []) ⊎ IsAmong n (bound ls)
        → (IsAmong n (bound ls) → IsBound n ls) → IsBound n (l ∷ ls)
    go true e (inl k) more = record { literal = l; in_body = inl refl; binds = e; has = k }
    go true e (inr k) more = bound_more n l ls (more k)
    go false e (inl k) more = absurd k
    go false e (inr k) more = bound_more n l ls (more k)

bound_at : (n : List ℕ) (ls : List Literal) (l : Literal) → IsAmong l ls → is_binding l ≡ true → IsAmong n (variables_in (atom_of l).terms)
    → IsAmong n (bound ls)
bound_at n [] l a b h = absurd a
bound_at n (m ∷ ls) l (inl e) b h =
    IsAmong-append_left n (cond (is_binding m) (variables_in (atom_of m).terms) []) (bound ls)
    (subst (λ (x : Literal). IsAmong n (cond (is_binding x) (variables_in (atom_of x).terms) [])) e (rw b h))
bound_at n (m ∷ ls) l (inr a) b h = IsAmong-append_right n (cond (is_binding m) (variables_in (atom_of m).terms) []) (bound ls)
    (bound_at n ls l a b h)

needed_said : (n : List ℕ) (ls : List Literal) → IsAmong n (needed ls) → (l : Literal) × IsAmong l ls × (is_binding l ≡ false)
    × IsAmong n (variables_in (atom_of l).terms)
needed_said n [] a = absurd a
needed_said n (l ∷ ls) a = go (is_binding l) refl (IsAmong-append n (cond (is_binding l) [] (variables_in (atom_of l).terms)) (needed ls) a)
    (needed_said n ls)
  where
    go : (b : Bool) → is_binding l ≡ b → IsAmong n (cond b [] (variables_in (atom_of l).terms)) ⊎ IsAmong n (needed ls)
        → (IsAmong n (needed ls) → (m : Literal) × IsAmong m ls × (is_binding m ≡ false) × IsAmong n (variables_in (atom_of m).terms))
        → (m : Literal) × IsAmong m (l ∷ ls) × (is_binding m ≡ false) × IsAmong n (variables_in (atom_of m).terms)
    go true e (inl k) more = absurd k
    go true e (inr k) more = let r = more k in (r.0, inr r.1, r.2, r.3)
    go false e (inl k) more = (l, inl refl, e, k)
    go false e (inr k) more = let r = more k in (r.0, inr r.1, r.2, r.3)

needed_at : (n : List ℕ) (ls : List Literal) (l : Literal) → IsAmong l ls → is_binding l ≡ false → IsAmong n (variables_in (atom_of l).terms)
    → IsAmong n (needed ls)
needed_at n [] l a b h = absurd a
needed_at n (m ∷ ls) l (inl e) b h =
    IsAmong-append_left n (cond (is_binding m) [] (variables_in (atom_of m).terms)) (needed ls)
    (subst (λ (x : Literal). IsAmong n (cond (is_binding x) [] (variables_in (atom_of x).terms))) e (rw b h))
needed_at n (m ∷ ls) l (inr a) b h = IsAmong-append_right n (cond (is_binding m) [] (variables_in (atom_of m).terms)) (needed ls)
    (needed_at n ls l a b h)

pub safety_said : (rule : Alternative) → is_safe rule ≡ true → IsSafe rule
safety_said rule h =
    let all = names_said (variables_in rule.head.terms ++ needed rule.body) (bound rule.body) h in
    record {
      head = λ n a. bound_said n rule.body (all n (IsAmong-append_left n (variables_in rule.head.terms) (needed rule.body) a));
      body = λ l a b n v. bound_said n rule.body
          (all n (IsAmong-append_right n (variables_in rule.head.terms) (needed rule.body) (needed_at n rule.body l a b v)));
    }

pub safety_found : (rule : Alternative) → IsSafe rule → is_safe rule ≡ true
safety_found rule s = names_found (variables_in rule.head.terms ++ needed rule.body) (bound rule.body)
    (λ n a. go n (IsAmong-append n (variables_in rule.head.terms) (needed rule.body) a))
  where
    into : (n : List ℕ) → IsBound n rule.body → IsAmong n (bound rule.body)
    into n b = bound_at n rule.body b.literal b.in_body b.binds b.has

    go : (n : List ℕ) → IsAmong n (variables_in rule.head.terms) ⊎ IsAmong n (needed rule.body) → IsAmong n (bound rule.body)
    go n (inl a) = into n (s.head n a)
    go n (inr a) = let r = needed_said n rule.body a in into n (s.body r.0 r.1 r.2 n r.3)

-- Limits.

pub limits_said : (n : ℕ) (before : List Tree) (t : Tree) → limit_passed n before t ≡ None → (n ≡ suc most_items → ⊥) × KeepsLimits t
    × (length (with_new before (role_in t)) ≤ most_roles)
limits_said n before t h = go (n == suc most_items) (nat_lt most_variables (count_different (variables t)))
    (nat_lt most_alternatives (length (item_alternatives t))) (nat_lt most_roles (length (with_new before (role_in t)))) refl refl refl refl h
  where
    go : (a b c d : Bool) → (n == suc most_items) ≡ a → nat_lt most_variables (count_different (variables t)) ≡ b
        → nat_lt most_alternatives (length (item_alternatives t)) ≡ c → nat_lt most_roles (length (with_new before (role_in t))) ≡ d
        → cond a (Some rules_limit) (cond b (Some variables_limit) (cond c (Some alternatives_limit) (cond d (Some roles_limit) None))) ≡ None
        → (n ≡ suc most_items → ⊥) × KeepsLimits t × (length (with_new before (role_in t)) ≤ most_roles)
    go true b c d e f g i k = absurd cc
    go false true c d e f g i k = absurd cc
    go false false true d e f g i k = absurd cc
    go false false false true e f g i k = absurd cc
    go false false false false e f g i k = (
      (λ s. let q : (n == suc most_items) ≡ true = eq-eqb n (suc most_items) s in absurd cc),
      record {
        variables = low most_variables (count_different (variables t)) f;
        alternatives =
            low most_alternatives (length (item_alternatives t)) g;
      },
      low most_roles (length (with_new before (role_in t))) i,
    )
      where
        low : (m k : ℕ) → nat_lt m k ≡ false → k ≤ m
        low m k h = grind (arith, nat_tests)

pub limits_found : (n : ℕ) (before : List Tree) (t : Tree) → (n ≡ suc most_items → ⊥) → KeepsLimits t
    → length (with_new before (role_in t)) ≤ most_roles → limit_passed n before t ≡ None
limits_found n before t d k l =
    rw (
      differs (n == suc most_items) refl,
      within most_variables (count_different (variables t)) k.variables,
      within most_alternatives (length (item_alternatives t)) k.alternatives,
      within most_roles (length (with_new before (role_in t))) l,
    ) refl
  where
    differs : (b : Bool) → (n == suc most_items) ≡ b → (n == suc most_items) ≡ false
    differs true e = absurd (d (eqb-true n (suc most_items) e))
    differs false e = e

    within : (m k : ℕ) → k ≤ m → nat_lt m k ≡ false
    within m k h = grind (arith, nat_tests)

with_new_longer : (rs ts : List Tree) → length rs ≤ length (with_new rs ts)
with_new_longer rs [] = omega arith
with_new_longer rs (t ∷ ts) = go (is_tree_in t rs) (with_new_longer rs ts) (with_new_longer (rs ++ t ∷ []) ts)
  where
    go : (b : Bool) → length rs ≤ length (with_new rs ts) → length (rs ++ t ∷ []) ≤ length (with_new (rs ++ t ∷ []) ts)
        → length rs ≤ length (with_new (cond b rs (rs ++ t ∷ [])) ts)
    go true h k = h
    go false h k = let e = length-append rs (t ∷ []) in omega arith

roles_from_longer : (rs : List Tree) (ts : List Tree) → length rs ≤ length (roles_from rs ts)
roles_from_longer rs [] = omega arith
roles_from_longer rs (t ∷ ts) = let a = with_new_longer rs (role_in t) in let b = roles_from_longer (with_new rs (role_in t)) ts in omega arith

-- no limit is passed from item n on
pub record KeepLimits (n : ℕ) (before ts : List Tree) : Type 0 where
  pub few : n + length ts ≤ suc most_items
  pub each : (t : Tree) → IsAmong t ts → KeepsLimits t
  pub few_roles : length (roles_from before ts) ≤ most_roles

pub none_too_many : (n : ℕ) (o : Option Limit) (rest : Option ItemFault) → or_item_fault (too_many_at n o) rest ≡ None → (o ≡ None) × (rest ≡ None)
none_too_many n None rest h = (refl, h)
none_too_many n (Some l) rest h = absurd cc

pub many_said : (n : ℕ) (before ts : List Tree) → n ≤ suc most_items → length before ≤ most_roles → first_too_many n before ts ≡ None
    → KeepLimits n before ts
many_said n before [] le few h = record { few = omega arith; each = λ t a. absurd a; few_roles = few }
many_said n before (t ∷ ts) le few h =
    let k = none_too_many n (limit_passed n before t) (first_too_many (suc n) (with_new before (role_in t)) ts) h in
    let l = limits_said n before t k.0 in
    let low : suc n ≤ suc most_items = below n le l.0 in
    let rest = many_said (suc n) (with_new before (role_in t)) ts low l.2 k.1 in
    record { few = (let r = rest.few in omega arith); each = λ u a. one u l.1 rest.each a; few_roles = rest.few_roles }
  where
    below : (m : ℕ) → m ≤ suc most_items → (m ≡ suc most_items → ⊥) → suc m ≤ suc most_items
    below m h d = grind (arith, d)

    one : (u : Tree) → KeepsLimits t → ((v : Tree) → IsAmong v ts → KeepsLimits v) → (u ≡ t) ⊎ IsAmong u ts → KeepsLimits u
    one u here rest (inl e) = subst KeepsLimits (sym e) here
    one u here rest (inr a) = rest u a

pub many_found : (n : ℕ) (before ts : List Tree) → KeepLimits n before ts → first_too_many n before ts ≡ None
many_found n before [] k = refl
many_found n before (t ∷ ts) k =
    let few = k.few in
    let rs = k.few_roles in
    let longer = roles_from_longer (with_new before (role_in t)) ts in
    let here = limits_found n before t (λ e. omega arith) (k.each t (inl refl)) (omega arith) in
    ap (λ (o : Option Limit). or_item_fault (too_many_at n o) (first_too_many (suc n) (with_new before (role_in t)) ts)) here
    ∙ many_found (suc n) (with_new before (role_in t)) ts (record { few = omega arith; each = λ u a. k.each u (inr a); few_roles = k.few_roles })

-- Dependence.

some_said : (test : Relation → Bool) (ls : List Literal) → some_literal test ls ≡ true → (l : Literal) × IsAmong l ls
    × (is_distinct (relation_of (atom_of l)) ≡ false) × (test (relation_of (atom_of l)) ≡ true)
some_said test [] h = absurd cc
some_said test (l ∷ ls) h = go (or_cases (not (is_distinct (relation_of (atom_of l))) && test (relation_of (atom_of l))) (some_literal test ls) h)
    (some_said test ls)
  where
    go : ((not (is_distinct (relation_of (atom_of l))) && test (relation_of (atom_of l))) ≡ true) ⊎ (some_literal test ls ≡ true)
        → (some_literal test ls ≡ true → (m : Literal) × IsAmong m ls × (is_distinct (relation_of (atom_of m)) ≡ false)
        × (test (relation_of (atom_of m)) ≡ true))
        → (m : Literal) × IsAmong m (l ∷ ls) × (is_distinct (relation_of (atom_of m)) ≡ false) × (test (relation_of (atom_of m)) ≡ true)
    go (inl k) more = let b = both (not (is_distinct (relation_of (atom_of l)))) (test (relation_of (atom_of l))) k in
        (l, inl refl, not_true _ b.0, b.1)
    go (inr k) more = let r = more k in (r.0, inr r.1, r.2, r.3)

pub some_body_said : (test : Relation → Bool) (rs : List Alternative) → some_body test rs ≡ true
    → (rule : Alternative) × IsAmong rule rs × (l : Literal) × IsAmong l rule.body × (is_distinct (relation_of (atom_of l)) ≡ false)
    × (test (relation_of (atom_of l)) ≡ true)
some_body_said test [] h = absurd cc
some_body_said test (r ∷ rs) h = go (or_cases (some_literal test r.body) (some_body test rs) h) (some_body_said test rs)
  where
    go : (some_literal test r.body ≡ true) ⊎ (some_body test rs ≡ true)
        → (some_body test rs ≡ true → (rule : Alternative) × IsAmong rule rs × (l : Literal) × IsAmong l rule.body
        × (is_distinct (relation_of (atom_of l)) ≡ false) × (test (relation_of (atom_of l)) ≡ true))
        → (rule : Alternative) × IsAmong rule (r ∷ rs) × (l : Literal) × IsAmong l rule.body × (is_distinct (relation_of (atom_of l)) ≡ false)
        × (test (relation_of (atom_of l)) ≡ true)
    go (inl k) more = let x = some_said test r.body k in (r, inl refl, x.0, x.1, x.2, x.3)
    go (inr k) more = let x = more k in (x.0, inr x.1, x.2, x.3, x.4, x.5)

among_alternatives : (items : List Tree) (t : Tree) (rule : Alternative) → IsAmong t items → IsAmong rule (item_alternatives t)
    → IsAmong rule (alternatives items)
among_alternatives [] t rule a b = absurd a
among_alternatives (u ∷ items) t rule (inl e) b =
    IsAmong-append_left rule (item_alternatives u) (alternatives items) (subst (λ (x : Tree). IsAmong rule (item_alternatives x)) e b)
among_alternatives (u ∷ items) t rule (inr a) b =
    IsAmong-append_right rule (item_alternatives u) (alternatives items) (among_alternatives items t rule a b)

-- a body atom of an item is a direct dependence of its head
pub direct_in : (items : List Tree) (t : Tree) (rule : Alternative) (l : Literal) → IsAmong t items → IsAmong rule (item_alternatives t)
    → IsAmong l rule.body → is_distinct (relation_of (atom_of l)) ≡ false
    → DependsDirectly (alternatives items) (relation_of (item_head t)) (relation_of (atom_of l))
direct_in items t rule l a b c d = record {
  rule = rule;
  literal = l;
  is_rule = among_alternatives items t rule a b;
  heads = ap relation_of (same_head (item_head t) _ rule b);
  in_body = c;
  names = refl;
  not_distinct = d;
}

-- a test of the relations that a head rests on directly, in each item that it heads
pub direct_tested : (items : List Tree) (test : Relation → Bool) (p : Relation)
    → ((t : Tree) → IsAmong t items → relation_of (item_head t) ≡ p → some_body test (item_alternatives t) ≡ false)
    → (q : Relation) → DependsDirectly (alternatives items) p q → test q ≡ false
direct_tested items test p none q d =
    let i = rule_item items d.rule d.is_rule in
    let same : relation_of (item_head i.0) ≡ p = ap relation_of (sym (same_head (item_head i.0) _ d.rule i.2)) ∙ d.heads in
    let never = none i.0 i.1 same in
    go (test q) refl i.0 i.2 never
  where
    go : (b : Bool) → test q ≡ b → (t : Tree) → IsAmong d.rule (item_alternatives t) → some_body test (item_alternatives t) ≡ false → test q ≡ false
    go true e t a never =
        let yes = body_found test (item_alternatives t) d.rule d.literal a d.in_body
        (subst (λ (x : Relation). is_distinct x ≡ false) (sym d.names) d.not_distinct)
        (subst (λ (x : Relation). test x ≡ true) (sym d.names) e) in
        absurd cc
    go false e t a never = e

-- and back
pub tested_direct : (items : List Tree) (test : Relation → Bool) (t : Tree) → IsAmong t items
    → ((q : Relation) → DependsDirectly (alternatives items) (relation_of (item_head t)) q → test q ≡ false)
    → some_body test (item_alternatives t) ≡ false
tested_direct items test t a none = go (some_body test (item_alternatives t)) refl
  where
    go : (b : Bool) → some_body test (item_alternatives t) ≡ b → b ≡ false
    go true e = let x = some_body_said test (item_alternatives t) e in let k =
        none (relation_of (atom_of x.2)) (direct_in items t x.0 x.2 a x.1 x.3 x.4) in absurd cc
    go false e = refl

-- resting on the relation, at once or through others
pub reaches_said : (rules : List Alternative) (q p : Relation) → (relation_eq q p || has_edge (dependences rules) q p) ≡ false
    → (q ≡ p → ⊥) × (Depends rules q p → ⊥)
reaches_said rules q p h = (
  (λ e. clash (or_left (relation_eq q p) (has_edge (dependences rules) q p)
      (subst (λ (x : Relation). relation_eq q x ≡ true) e (relation_eq_self q)))),
  (λ d. clash (or_right (relation_eq q p) (has_edge (dependences rules) q p) (table_complete rules q p d))),
)
  where
    clash : (relation_eq q p || has_edge (dependences rules) q p) ≡ true → ⊥
    clash k = absurd cc

pub reaches_found : (rules : List Alternative) (q p : Relation) → (q ≡ p → ⊥) → (Depends rules q p → ⊥)
    → (relation_eq q p || has_edge (dependences rules) q p) ≡ false
reaches_found rules q p d e = go (relation_eq q p) (has_edge (dependences rules) q p) refl refl
  where
    go : (a b : Bool) → relation_eq q p ≡ a → has_edge (dependences rules) q p ≡ b → (a || b) ≡ false
    go true b f g = absurd (d (relation_eq_yes q p f))
    go false true f g = absurd (e (table_sound rules q p g))
    go false false f g = refl

-- resting on p is resting on it directly, or on something that rests on it
never_rests : (rules : List Alternative) (p r : Relation) → ((q : Relation) → DependsDirectly rules p q → (q ≡ r → ⊥) × (Depends rules q r → ⊥))
    → Depends rules p r → ⊥
never_rests rules p r none d = go d.0 d.1
  where
    go : (n : ℕ) → DependsIn rules n p r → ⊥
    go zero x = (none r x).0 refl
    go (suc n) x = (none x.0 x.1).1 (n, x.2)

rests_never : (rules : List Alternative) (p r : Relation) → (Depends rules p r → ⊥) → (q : Relation) → DependsDirectly rules p q
    → (q ≡ r → ⊥) × (Depends rules q r → ⊥)
rests_never rules p r none q d = ((λ e. none (zero, subst (λ (x : Relation). DependsDirectly rules p x) e d)), (λ c. none (suc c.0, (q, d, c.1))))

-- The whole.

pub all_pass : (fault : ℕ → ItemFault) (fails : Tree → Bool) (n : ℕ) (items : List Tree) → ((t : Tree) → IsAmong t items → fails t ≡ false)
    → first_failing fault fails n items ≡ None
all_pass fault fails n [] h = refl
all_pass fault fails n (t ∷ ts) h = rw (h t (inl refl)) (all_pass fault fails (suc n) ts (λ u a. h u (inr a)))

both_false : (a b : Bool) → (a || b) ≡ false → (a ≡ false) × (b ≡ false)
both_false true b h = absurd cc
both_false false b h = (refl, h)

then_false : (a b : Bool) → (a && b) ≡ false → a ≡ true → b ≡ false
then_false true b h e = h
then_false false b h e = absurd cc

pub word_is : (w : List ℕ) (n : ℕ) (p : Relation) → is_word w n p ≡ true → p ≡ relation w n
word_is w n p h = let k = both (name_eq p.word w) (p.arity == n) h in let e = name_eq_yes p.word w k.0 in let f = eqb-true p.arity n k.1 in
    λ i. record { word = e i; arity = f i }

pub is_the_word : (w : List ℕ) (n : ℕ) (p : Relation) → p ≡ relation w n → is_word w n p ≡ true
is_the_word w n p e = subst (λ (q : Relation). is_word w n q ≡ true) (sym e) (true_and (name_eq w w) (n == n) (name_eq_self w) (eq-eqb n n refl))

-- the relations that may not rest on moves, and those that rest on fixed relations alone
abbrev rules_turn : Relation → Bool
rules_turn p = is_word w_legal 2 p || (is_word w_goal 2 p || is_word w_terminal 0 p)

abbrev rules_all_time : Relation → Bool
rules_all_time p = is_word w_base 1 p || (is_word w_input 2 p || is_word w_init 1 p)

record NotBadly (items : List Tree) (t : Tree) : Type 0 where
  turn : rules_turn (relation_of (item_head t)) ≡ true → some_body (rests_on_move (dependences (alternatives items))) (item_alternatives t) ≡ false
  all_time : rules_all_time (relation_of (item_head t)) ≡ true
      → some_body (λ (q : Relation). not (is_fixed (alternatives items) q)) (item_alternatives t) ≡ false

badly_said : (items : List Tree) (t : Tree) → depends_badly (dependences (alternatives items)) (alternatives items) t ≡ false → NotBadly items t
badly_said items t h =
    let k = both_false (rules_turn (relation_of (item_head t)) && some_body (rests_on_move (dependences (alternatives items))) (item_alternatives t))
    (rules_all_time (relation_of (item_head t)) && some_body (λ (q : Relation). not (is_fixed (alternatives items) q)) (item_alternatives t)) h in
    record { turn = λ e. then_false _ _ k.0 e; all_time = λ e. then_false _ _ k.1 e }

badly_found : (items : List Tree) (t : Tree) → NotBadly items t → depends_badly (dependences (alternatives items)) (alternatives items) t ≡ false
badly_found items t h = go (rules_turn (relation_of (item_head t))) (rules_all_time (relation_of (item_head t))) refl refl
  where
    go : (a b : Bool) → rules_turn (relation_of (item_head t)) ≡ a → rules_all_time (relation_of (item_head t)) ≡ b
        → ((a && some_body (rests_on_move (dependences (alternatives items))) (item_alternatives t))
        || (b && some_body (λ (q : Relation). not (is_fixed (alternatives items) q)) (item_alternatives t))) ≡ false
    go true true e f = rw (h.turn e) (h.all_time f)
    go true false e f = rw (h.turn e) refl
    go false true e f = h.all_time f
    go false false e f = refl

-- the test of one class of heads
turn_rests : (items : List Tree) (p : Relation) → rules_turn p ≡ true → ((t : Tree) → IsAmong t items → NotBadly items t)
    → Depends (alternatives items) p does_relation → ⊥
turn_rests items p w each =
    never_rests (alternatives items) p does_relation (λ q d.
    reaches_said (alternatives items) q does_relation
    (direct_tested items (rests_on_move (dependences (alternatives items))) p
    (λ t a e. (each t a).turn (subst (λ (r : Relation). rules_turn r ≡ true) (sym e) w)) q d))

all_time_rests : (items : List Tree) → IsAcyclic (alternatives items) → (p : Relation) → rules_all_time p ≡ true
    → ((t : Tree) → IsAmong t items → NotBadly items t)
    → (q : Relation) → DependsDirectly (alternatives items) p q → IsFixed (alternatives items) q
all_time_rests items acyclic p w each q d =
    (fixed_tested (alternatives items) acyclic q).0
    (not_not _ (direct_tested items (λ (r : Relation). not (is_fixed (alternatives items) r)) p
    (λ t a e. (each t a).all_time (subst (λ (r : Relation). rules_all_time r ≡ true) (sym e) w)) q d))

pub rests_said : (items : List Tree) → IsAcyclic (alternatives items)
    → ((t : Tree) → IsAmong t items → depends_badly (dependences (alternatives items)) (alternatives items) t ≡ false)
    → RestsWell (alternatives items)
rests_said items acyclic h =
    let each : (t : Tree) → IsAmong t items → NotBadly items t = λ t a. badly_said items t (h t a) in
    record {
      legal = turn_rests items (relation w_legal 2) refl each;
      goal = turn_rests items (relation w_goal 2) refl each;
      terminal = turn_rests items (relation w_terminal 0) refl each;
      base = all_time_rests items acyclic (relation w_base 1) refl each;
      input = all_time_rests items acyclic (relation w_input 2) refl each;
      init = all_time_rests items acyclic (relation w_init 1) refl each;
    }

pub rests_found : (items : List Tree) → IsAcyclic (alternatives items) → RestsWell (alternatives items) → (t : Tree) → IsAmong t items
    → depends_badly (dependences (alternatives items)) (alternatives items) t ≡ false
rests_found items acyclic r t a = badly_found items t (record {
  turn = λ w. tested_direct items (rests_on_move (dependences (alternatives items))) t a (λ q d.
      let k = rests_never (alternatives items) (relation_of (item_head t)) does_relation (turn w) q d in
      reaches_found (alternatives items) q does_relation k.0 k.1);
  all_time = λ w. tested_direct items (λ (q : Relation). not (is_fixed (alternatives items) q)) t a
      (λ q d. ap not ((fixed_tested (alternatives items) acyclic q).1 (all_time w q d)));
})
  where
    along : (w : List ℕ) (n : ℕ) → is_word w n (relation_of (item_head t)) ≡ true → (Depends (alternatives items) (relation w n) does_relation → ⊥)
        → Depends (alternatives items) (relation_of (item_head t)) does_relation → ⊥
    along w n e none = subst (λ (p : Relation). Depends (alternatives items) p does_relation → ⊥) (sym (word_is w n _ e)) none

    turn : rules_turn (relation_of (item_head t)) ≡ true → Depends (alternatives items) (relation_of (item_head t)) does_relation → ⊥
    turn w = elim (or_cases (is_word w_legal 2 (relation_of (item_head t))) _ w) [
      | inl e ↦ along w_legal 2 e r.legal
      | inr k ↦ elim (or_cases (is_word w_goal 2 (relation_of (item_head t))) _ k) [
        | inl e ↦ along w_goal 2 e r.goal
        | inr e ↦
            along w_terminal 0 e r.terminal
      ]
    ]

    along_direct : (w : List ℕ) (n : ℕ) → is_word w n (relation_of (item_head t)) ≡ true
        → ((q : Relation) → DependsDirectly (alternatives items) (relation w n) q → IsFixed (alternatives items) q)
        → (q : Relation) → DependsDirectly (alternatives items) (relation_of (item_head t)) q → IsFixed (alternatives items) q
    along_direct w n e each = subst (λ (p : Relation). (q : Relation) → DependsDirectly (alternatives items) p q
        → IsFixed (alternatives items) q) (sym (word_is w n _ e)) each

    all_time : rules_all_time (relation_of (item_head t)) ≡ true → (q : Relation) → DependsDirectly (alternatives items) (relation_of (item_head t)) q
        → IsFixed (alternatives items) q
    all_time w = elim (or_cases (is_word w_base 1 (relation_of (item_head t))) _ w) [
      | inl e ↦ along_direct w_base 1 e r.base
      | inr k ↦ elim (or_cases (is_word w_input 2 (relation_of (item_head t))) _ k) [
        | inl e ↦ along_direct w_input 2 e r.input
        | inr e ↦
            along_direct w_init 1 e r.init
      ]
    ]

pub acyclic_found : (items : List Tree) → IsAcyclic (alternatives items) → (t : Tree) → IsAmong t items
    → is_recursive (dependences (alternatives items)) t ≡ false
acyclic_found items acyclic t a =
    tested_direct items (λ (q : Relation). relation_eq q (relation_of (item_head t)) || has_edge (dependences (alternatives items)) q
    (relation_of (item_head t))) t a
    (λ q d. reaches_found (alternatives items) q (relation_of (item_head t))
    (λ e. acyclic (relation_of (item_head t)) (
      zero,
      subst (λ (x : Relation). DependsDirectly (alternatives items) (relation_of (item_head t)) x) e d,
    ))
    (λ c. acyclic (relation_of (item_head t)) (suc c.0, (q, d, c.1))))

pub safe_each : (rs : List Alternative) → are_safe rs ≡ true → (rule : Alternative) → IsAmong rule rs → is_safe rule ≡ true
safe_each [] h rule a = absurd a
safe_each (r ∷ rs) h rule (inl e) = ap is_safe e ∙ (both (is_safe r) (are_safe rs) h).0
safe_each (r ∷ rs) h rule (inr a) = safe_each rs (both (is_safe r) (are_safe rs) h).1 rule a

pub each_safe : (rs : List Alternative) → ((rule : Alternative) → IsAmong rule rs → is_safe rule ≡ true) → are_safe rs ≡ true
each_safe [] h = refl
each_safe (r ∷ rs) h = true_and (is_safe r) (are_safe rs) (h r (inl refl)) (each_safe rs (λ rule a. h rule (inr a)))

-- no part finds a fault
pub record PassesAll (items : List Tree) : Type 0 where
  pub forms : first_failing bad_form (λ t. not (is_item t)) 1 items ≡ None
  pub words : first_failing bad_keyword misuses_word 1 items ≡ None
  pub many : first_too_many 1 [] items ≡ None
  pub safe : first_failing not_safe is_unsafe 1 items ≡ None
  pub straight : first_failing recursive (is_recursive (dependences (alternatives items))) 1 items ≡ None
  pub rests : first_failing bad_dependence (depends_badly (dependences (alternatives items)) (alternatives items)) 1 items ≡ None
  pub some : none_of (roles items) ≡ None

pub parts_said : (items : List Tree) → HasNoFault items → PassesAll items
parts_said items e =
    let form : Option ItemFault = first_failing bad_form (λ (t : Tree). not (is_item t)) 1 items in
    let words : Option ItemFault = first_failing bad_keyword misuses_word 1 items in
    let many : Option ItemFault = first_too_many 1 [] items in
    let unsafe' : Option ItemFault = first_failing not_safe is_unsafe 1 items in
    let cycles : Option ItemFault = first_failing recursive (is_recursive (dependences (alternatives items))) 1 items in
    let badly : Option ItemFault = first_failing bad_dependence (depends_badly (dependences (alternatives items)) (alternatives items)) 1 items in
    let last : Option ItemFault = none_of (roles items) in
    let a = or_none form (or_item_fault words (or_item_fault many (or_item_fault unsafe' (or_item_fault cycles (or_item_fault badly last))))) e in
    let b = or_none words (or_item_fault many (or_item_fault unsafe' (or_item_fault cycles (or_item_fault badly last)))) a.1 in
    let c = or_none many (or_item_fault unsafe' (or_item_fault cycles (or_item_fault badly last))) b.1 in
    let d = or_none unsafe' (or_item_fault cycles (or_item_fault badly last)) c.1 in
    let f = or_none cycles (or_item_fault badly last) d.1 in
    let g = or_none badly last f.1 in
    record { forms = a.0; words = b.0; many = c.0; safe = d.0; straight = f.0; rests = g.0; some = g.1 }

pub parts_found : (items : List Tree) → PassesAll items → HasNoFault items
parts_found items p = rw (p.forms, p.words, p.many, p.safe, p.straight, p.rests) p.some

roles_said : (rs : List Tree) → none_of rs ≡ None → 1 ≤ length rs
roles_said [] h = absurd cc
roles_said (r ∷ rs) h = omega arith

roles_found : (rs : List Tree) → 1 ≤ length rs → none_of rs ≡ None
roles_found [] h = absurd (omega arith)
roles_found (r ∷ rs) h = refl

pub law_said : (items : List Tree) → HasNoFault items → IsLawfulProfile items
law_said items e =
    let p = parts_said items e in
    let k = many_said 1 [] items (omega arith) (omega arith) p.many in
    let few = k.few in
    let acyclic = accepted_acyclic items e in
    record {
      forms = λ t a. not_not _ (none_fails bad_form (λ (u : Tree). not (is_item u)) 1 items p.forms t a);
      words = λ t a. words_said t (none_fails bad_keyword misuses_word 1 items p.words t a);
      few_items = omega arith;
      limits = k.each;
      few_roles = k.few_roles;
      safe = λ rule a.
          let i = rule_item items rule a in
          safety_said rule (safe_each (item_alternatives i.0) (not_not _ (none_fails not_safe is_unsafe 1 items p.safe i.0 i.1)) rule i.2);
      acyclic = acyclic;
      rests = rests_said items acyclic (none_fails bad_dependence (depends_badly (dependences (alternatives items)) (alternatives items)) 1 items
          p.rests);
      some_role = roles_said (roles items) p.some;
    }

pub law_found : (items : List Tree) → IsLawfulProfile items → HasNoFault items
law_found items l =
    let few = l.few_items in
    parts_found items (record {
      forms = all_pass bad_form (λ (t : Tree). not (is_item t)) 1 items (λ t a. ap not (l.forms t a));
      words = all_pass bad_keyword misuses_word 1 items (λ t a. words_found t (l.words t a));
      many = many_found 1 [] items (record { few = omega arith; each = l.limits; few_roles = l.few_roles });
      safe = all_pass not_safe is_unsafe 1 items
          (λ t a. ap not (each_safe (item_alternatives t) (λ rule b. safety_found rule (l.safe rule (among_alternatives items t rule a b)))));
      straight = all_pass recursive (is_recursive (dependences (alternatives items))) 1 items (acyclic_found items l.acyclic);
      rests = all_pass bad_dependence (depends_badly (dependences (alternatives items)) (alternatives items)) 1 items
          (rests_found items l.acyclic l.rests);
      some = roles_found (roles items) l.some_role;
    })
