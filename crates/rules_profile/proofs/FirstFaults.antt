-- The fault of a list of items is the one that the relations name.
use Rattle.std.proofs.Common.{ℕ, zero, suc, ◌+◌, ◌<◌, ◌≤◌, Bool, true, false, not, cond, ◌&&◌, ◌||◌, ◌==◌, nat_lt, ◌≡◌, ◌⊎◌, inl, inr, List, [], ◌∷◌}
use Rattle.std.proofs.Common.{length, take, refl, sym, ap, subst, ◌∙◌, arith, Option, Some, None, eqb-true, eq-eqb}
use Rattle.std.proofs.lemmas.Bool.Decides.{nat_tests}
use Rattle.statement.specs.Tree.{Tree}
use Rattle.kif.proofs.Facts.{both, true_and}
use Rattle.statement.specs.Words.{w_base, w_input, w_init, w_legal, w_goal, w_terminal}
use Rattle.statement.specs.Clause.{Alternative, Relation, relation_of, relation_eq, atom_of, is_word}
use Rattle.statement.specs.Dependence.{is_distinct, IsAcyclic, IsFixed, has_edge, dependences, is_fixed}
use Rattle.statement.specs.Items.{is_item, item_head, item_alternatives, alternatives}
use Rattle.statement.specs.Safety.{variables, count_different}
use Rattle.statement.specs.Profile.{ItemFault, Limit, rules_limit, variables_limit, alternatives_limit, roles_limit, limit_passed, too_many_at, with_new}
use Rattle.statement.specs.Profile.{role_in, roles_from, first_failing, first_too_many, or_item_fault, bad_form, bad_keyword, too_many, not_safe, recursive}
use Rattle.statement.specs.Profile.{bad_dependence, no_role, misuses_word, is_unsafe, is_recursive, depends_badly, rests_on_move, some_body}
use Rattle.statement.specs.Profile.{does_relation, none_of, roles, item_fault_in}
use Rattle.rules_profile.specs.Lawful.{UsesWordsWell}
use Rattle.rules_profile.specs.Faults.{PassesWith, limit_place, ItemStandsAt, IsFirst, RestsOn, HasForm, IsSafeItem, LeadsTo, RestsOnItself, IsOfTurn}
use Rattle.rules_profile.specs.Faults.{IsOfAllTime, RestsBadly, Each, AllKeepLimits, IsFirstOver, HasFault}
use Rattle.statement.specs.RuleLimits.{most_items, most_variables, most_alternatives, most_roles}
use Rattle.rules_profile.proofs.Equality.{relation_eq_yes, relation_eq_self}
use Rattle.rules_profile.proofs.Tests.{or_cases, or_left, or_right, not_true}
use Rattle.rules_profile.proofs.Accepted.{none_fails, not_not, fixed_tested, body_found, straight_acyclic}
use Rattle.rules_profile.proofs.Closure.{table_sound, table_complete}
use Rattle.rules_profile.proofs.Lawfulness.{words_said, words_found, safety_said, safety_found, safe_each, each_safe, some_body_said, word_is, is_the_word}
use Rattle.rules_profile.proofs.Lawfulness.{all_pass, rests_said, rests_found, limits_said, limits_found, many_said, many_found, acyclic_found}

-- The first item that fails a test.

record Found (fault : ℕ → ItemFault) (fails : Tree → Bool) (n : ℕ) (items : List Tree) (f : ItemFault) : Type 0 where
  place : ℕ
  fault_is : f ≡ fault (n + place)
  item : Tree
  here : ItemStandsAt items place item
  failing : fails item ≡ true
  before : (k : ℕ) (t : Tree) → k < place → ItemStandsAt items k t → fails t ≡ false

first_said : (fault : ℕ → ItemFault) (fails : Tree → Bool) (n : ℕ) (items : List Tree) (f : ItemFault) → first_failing fault fails n items ≡ Some f
    → Found fault fails n items f
first_said fault fails n [] f h = absurd cc
first_said fault fails n (t ∷ ts) f h = go (fails t) refl h (λ k. first_said fault fails (suc n) ts f k)
  where
    go : (b : Bool) → fails t ≡ b → cond b (Some (fault n)) (first_failing fault fails (suc n) ts) ≡ Some f
        → (first_failing fault fails (suc n) ts ≡ Some f → Found fault fails (suc n) ts f) → Found fault fails n (t ∷ ts) f
    go true e k more = record {
      place = 0;
      fault_is = (let s : f ≡ fault n = cc in s ∙ ap fault (let z : n ≡ n + 0 = omega arith in z));
      item = t;
      here = refl;
      failing = e;
      before = λ j u lt. absurd (omega arith);
    }
    go false e k more =
        let r = more k in
        record {
          place = suc r.place;
          fault_is = r.fault_is ∙ ap fault (let z : suc n + r.place ≡ n + suc r.place = omega arith in z);
          item = r.item;
          here = r.here;
          failing = r.failing;
          before = earlier r.place r.before;
        }
      where
        earlier : (place : ℕ) → ((j : ℕ) (u : Tree) → j < place → ItemStandsAt ts j u → fails u ≡ false) → (j : ℕ) (u : Tree) → j < suc place
            → ItemStandsAt (t ∷ ts) j u → fails u ≡ false
        earlier place b zero u lt s = ap fails s ∙ e
        earlier place b (suc j) u lt s = b j u (omega arith) s

first_found : (fault : ℕ → ItemFault) (fails : Tree → Bool) (n : ℕ) (items : List Tree) (k : ℕ) (t : Tree) → ItemStandsAt items k t → fails t ≡ true
    → ((j : ℕ) (u : Tree) → j < k → ItemStandsAt items j u → fails u ≡ false) → first_failing fault fails n items ≡ Some (fault (n + k))
first_found fault fails n [] k t s f b = absurd s
first_found fault fails n (u ∷ us) zero t s f b =
    rw (subst (λ (x : Tree). fails x ≡ true) s f) (ap (λ (m : ℕ). Some (fault m)) (let z : n ≡ n + 0 = omega arith in z))
first_found fault fails n (u ∷ us) (suc k) t s f b =
    rw (b 0 u (omega arith) refl)
    (first_found fault fails (suc n) us k t s f (λ j v lt c. b (suc j) v (omega arith) c)
    ∙ ap (λ (m : ℕ). Some (fault m)) (let z : suc n + k ≡ n + suc k = omega arith in z))

-- the same by a property that the test decides
named_said : (fault : ℕ → ItemFault) (fails : Tree → Bool) (P : Tree → Type 0) (items : List Tree) (f : ItemFault) → ((t : Tree) → fails t ≡ true → P t)
    → ((t : Tree) → fails t ≡ false → P t → ⊥)
    → first_failing fault fails 1 items ≡ Some f → (n : ℕ) × (f ≡ fault n) × IsFirst P items n
named_said fault fails P items f holds never h =
    let r = first_said fault fails 1 items f h in (
      1 + r.place,
      r.fault_is,
      record {
        place = r.place;
        number = (let z : 1 + r.place ≡ suc r.place = omega arith in z);
        item = r.item;
        here = r.here;
        has = holds r.item r.failing;
        before = λ k t lt s p. never t (r.before k t lt s) p;
      },
    )

named_found : (fault : ℕ → ItemFault) (fails : Tree → Bool) (P : Tree → Type 0) (items : List Tree) (n : ℕ) → ((t : Tree) → P t → fails t ≡ true)
    → ((t : Tree) → (P t → ⊥) → fails t ≡ false)
    → IsFirst P items n → first_failing fault fails 1 items ≡ Some (fault n)
named_found fault fails P items n holds never i =
    first_found fault fails 1 items i.place i.item i.here (holds i.item i.has) (λ j u lt s. never u (i.before j u lt s))
    ∙ ap (λ (m : ℕ). Some (fault m)) (let e = i.number in let z : 1 + i.place ≡ n = omega arith in z)

-- What each test decides.

decided_no : (b : Bool) (Q : Type 0) → (b ≡ false → Q) → (Q → ⊥) → b ≡ true
decided_no true Q h d = refl
decided_no false Q h d = absurd (d (h refl))

decided_false : (b : Bool) (Q : Type 0) → (b ≡ true → Q → ⊥) → ((Q → ⊥) → ⊥) → b ≡ false
decided_false true Q h d = absurd (d (h refl))
decided_false false Q h d = refl

form_yes : (t : Tree) → not (is_item t) ≡ true → HasForm t → ⊥
form_yes t h k = let e = not_true _ h in absurd cc

form_never : (t : Tree) → not (is_item t) ≡ false → (HasForm t → ⊥) → ⊥
form_never t h d = d (not_not _ h)

words_yes : (t : Tree) → misuses_word t ≡ true → UsesWordsWell t → ⊥
words_yes t h w = let e = words_found t w in absurd cc

safe_item : (t : Tree) → is_unsafe t ≡ false → IsSafeItem t
safe_item t h rule a = safety_said rule (safe_each (item_alternatives t) (not_not _ h) rule a)

item_safe : (t : Tree) → IsSafeItem t → is_unsafe t ≡ false
item_safe t s = ap not (each_safe (item_alternatives t) (λ rule a. safety_found rule (s rule a)))

unsafe_yes : (t : Tree) → is_unsafe t ≡ true → IsSafeItem t → ⊥
unsafe_yes t h s = let e = item_safe t s in absurd cc

-- a body atom whose relation passes a test
rests_said' : (t : Tree) (test : Relation → Bool) → some_body test (item_alternatives t) ≡ true → (q : Relation) × RestsOn t q × (test q ≡ true)
rests_said' t test h =
    let x = some_body_said test (item_alternatives t) h in
    (relation_of (atom_of x.2), record { rule = x.0; is_rule = x.1; literal = x.2; in_body = x.3; names = refl; not_distinct = x.4 }, x.5)

rests_found' : (t : Tree) (test : Relation → Bool) (q : Relation) → RestsOn t q → test q ≡ true → some_body test (item_alternatives t) ≡ true
rests_found' t test q r h =
    body_found test (item_alternatives t) r.rule r.literal r.is_rule r.in_body
    (subst (λ (x : Relation). is_distinct x ≡ false) (sym r.names) r.not_distinct) (subst (λ (x : Relation). test x ≡ true) (sym r.names) h)

leads_said : (rules : List Alternative) (q p : Relation) → (relation_eq q p || has_edge (dependences rules) q p) ≡ true → LeadsTo rules q p
leads_said rules q p h = elim (or_cases (relation_eq q p) (has_edge (dependences rules) q p) h) [
  | inl e ↦ inl (relation_eq_yes q p e)
  | inr k ↦
      inr (table_sound rules q p k)
]

leads_found : (rules : List Alternative) (q p : Relation) → LeadsTo rules q p → (relation_eq q p || has_edge (dependences rules) q p) ≡ true
leads_found rules q p (inl e) = or_left (relation_eq q p) (has_edge (dependences rules) q p)
    (subst (λ (x : Relation). relation_eq q x ≡ true) e (relation_eq_self q))
leads_found rules q p (inr d) = or_right (relation_eq q p) (has_edge (dependences rules) q p) (table_complete rules q p d)

itself_yes : (rules : List Alternative) (t : Tree) → is_recursive (dependences rules) t ≡ true → RestsOnItself rules t
itself_yes rules t h =
    let x = rests_said' t (λ (q : Relation). relation_eq q (relation_of (item_head t)) || has_edge (dependences rules) q (relation_of (item_head t)))
    h in
    (x.0, x.1, leads_said rules x.0 (relation_of (item_head t)) x.2)

itself_back : (rules : List Alternative) (t : Tree) → RestsOnItself rules t → is_recursive (dependences rules) t ≡ true
itself_back rules t r =
    rests_found' t (λ (q : Relation). relation_eq q (relation_of (item_head t)) || has_edge (dependences rules) q (relation_of (item_head t))) r.0 r.1
    (leads_found rules r.0 (relation_of (item_head t)) r.2)

turn_said : (p : Relation) → (is_word w_legal 2 p || (is_word w_goal 2 p || is_word w_terminal 0 p)) ≡ true → IsOfTurn p
turn_said p h = elim (or_cases (is_word w_legal 2 p) _ h) [
  | inl e ↦ inl (word_is w_legal 2 p e)
  | inr k ↦ elim (or_cases (is_word w_goal 2 p) _ k) [ inl e ↦ inr (inl (word_is w_goal 2 p e)) | inr e ↦ inr (inr (word_is w_terminal 0 p e)) ]
]

turn_found : (p : Relation) → IsOfTurn p → (is_word w_legal 2 p || (is_word w_goal 2 p || is_word w_terminal 0 p)) ≡ true
turn_found p (inl e) = or_left (is_word w_legal 2 p) (is_word w_goal 2 p || is_word w_terminal 0 p) (is_the_word w_legal 2 p e)
turn_found p (inr (inl e)) = or_right (is_word w_legal 2 p) (is_word w_goal 2 p || is_word w_terminal 0 p)
    (or_left (is_word w_goal 2 p) (is_word w_terminal 0 p) (is_the_word w_goal 2 p e))
turn_found p (inr (inr e)) = or_right (is_word w_legal 2 p) (is_word w_goal 2 p || is_word w_terminal 0 p)
    (or_right (is_word w_goal 2 p) (is_word w_terminal 0 p) (is_the_word w_terminal 0 p e))

all_time_said : (p : Relation) → (is_word w_base 1 p || (is_word w_input 2 p || is_word w_init 1 p)) ≡ true → IsOfAllTime p
all_time_said p h = elim (or_cases (is_word w_base 1 p) _ h) [
  | inl e ↦ inl (word_is w_base 1 p e)
  | inr k ↦ elim (or_cases (is_word w_input 2 p) _ k) [ inl e ↦ inr (inl (word_is w_input 2 p e)) | inr e ↦ inr (inr (word_is w_init 1 p e)) ]
]

all_time_found : (p : Relation) → IsOfAllTime p → (is_word w_base 1 p || (is_word w_input 2 p || is_word w_init 1 p)) ≡ true
all_time_found p (inl e) = or_left (is_word w_base 1 p) (is_word w_input 2 p || is_word w_init 1 p) (is_the_word w_base 1 p e)
all_time_found p (inr (inl e)) = or_right (is_word w_base 1 p) (is_word w_input 2 p || is_word w_init 1 p)
    (or_left (is_word w_input 2 p) (is_word w_init 1 p) (is_the_word w_input 2 p e))
all_time_found p (inr (inr e)) = or_right (is_word w_base 1 p) (is_word w_input 2 p || is_word w_init 1 p)
    (or_right (is_word w_input 2 p) (is_word w_init 1 p) (is_the_word w_init 1 p e))

not_fixed_said : (rules : List Alternative) → IsAcyclic rules → (q : Relation) → not (is_fixed rules q) ≡ true → IsFixed rules q → ⊥
not_fixed_said rules acyclic q h f = let e = (fixed_tested rules acyclic q).1 f in let d = not_true _ h in absurd cc

not_fixed_found : (rules : List Alternative) → IsAcyclic rules → (q : Relation) → (IsFixed rules q → ⊥) → not (is_fixed rules q) ≡ true
not_fixed_found rules acyclic q d = go (is_fixed rules q) refl
  where
    go : (b : Bool) → is_fixed rules q ≡ b → not b ≡ true
    go true e = absurd (d ((fixed_tested rules acyclic q).0 e))
    go false e = refl

badly_yes : (rules : List Alternative) → IsAcyclic rules → (t : Tree) → depends_badly (dependences rules) rules t ≡ true → RestsBadly rules t
badly_yes rules acyclic t h =
    elim (or_cases
    ((is_word w_legal 2 (relation_of (item_head t))
    || (is_word w_goal 2 (relation_of (item_head t)) || is_word w_terminal 0 (relation_of (item_head t))))
    && some_body (rests_on_move (dependences rules)) (item_alternatives t)) _ h) [
      | inl k ↦ inl (turn k)
      | inr k ↦ inr (all_time k)
    ]
  where
    turn : ((is_word w_legal 2 (relation_of (item_head t))
        || (is_word w_goal 2 (relation_of (item_head t)) || is_word w_terminal 0 (relation_of (item_head t))))
        && some_body (rests_on_move (dependences rules)) (item_alternatives t)) ≡ true
        → IsOfTurn (relation_of (item_head t)) × ((q : Relation) × RestsOn t q × LeadsTo rules q does_relation)
    turn k =
        let b = both (is_word w_legal 2 (relation_of (item_head t))
        || (is_word w_goal 2 (relation_of (item_head t)) || is_word w_terminal 0 (relation_of (item_head t))))
        (some_body (rests_on_move (dependences rules)) (item_alternatives t)) k in
        let x = rests_said' t (rests_on_move (dependences rules)) b.1 in
        (turn_said _ b.0, (x.0, x.1, leads_said rules x.0 does_relation x.2))

    all_time : ((is_word w_base 1 (relation_of (item_head t))
        || (is_word w_input 2 (relation_of (item_head t)) || is_word w_init 1 (relation_of (item_head t))))
        && some_body (λ (q : Relation). not (is_fixed rules q)) (item_alternatives t)) ≡ true
        → IsOfAllTime (relation_of (item_head t)) × ((q : Relation) × RestsOn t q × (IsFixed rules q → ⊥))
    all_time k =
        let b = both (is_word w_base 1 (relation_of (item_head t))
        || (is_word w_input 2 (relation_of (item_head t)) || is_word w_init 1 (relation_of (item_head t))))
        (some_body (λ (q : Relation). not (is_fixed rules q)) (item_alternatives t)) k in
        let x = rests_said' t (λ (q : Relation). not (is_fixed rules q)) b.1 in
        (all_time_said _ b.0, (x.0, x.1, not_fixed_said rules acyclic x.0 x.2))

badly_back : (rules : List Alternative) → IsAcyclic rules → (t : Tree) → RestsBadly rules t → depends_badly (dependences rules) rules t ≡ true
badly_back rules acyclic t (inl r) =
    or_left ((is_word w_legal 2 (relation_of (item_head t))
    || (is_word w_goal 2 (relation_of (item_head t)) || is_word w_terminal 0 (relation_of (item_head t))))
    && some_body (rests_on_move (dependences rules)) (item_alternatives t)) _
    (true_and (is_word w_legal 2 (relation_of (item_head t))
    || (is_word w_goal 2 (relation_of (item_head t)) || is_word w_terminal 0 (relation_of (item_head t))))
    (some_body (rests_on_move (dependences rules)) (item_alternatives t))
    (turn_found (relation_of (item_head t)) r.0) (let x = r.1 in
    rests_found' t (rests_on_move (dependences rules)) x.0 x.1 (leads_found rules x.0 does_relation x.2)))
badly_back rules acyclic t (inr r) =
    or_right ((is_word w_legal 2 (relation_of (item_head t))
    || (is_word w_goal 2 (relation_of (item_head t)) || is_word w_terminal 0 (relation_of (item_head t))))
    && some_body (rests_on_move (dependences rules)) (item_alternatives t)) _
    (true_and (is_word w_base 1 (relation_of (item_head t))
    || (is_word w_input 2 (relation_of (item_head t)) || is_word w_init 1 (relation_of (item_head t))))
    (some_body (λ (q : Relation). not (is_fixed rules q)) (item_alternatives t))
    (all_time_found (relation_of (item_head t)) r.0) (let x = r.1 in
    rests_found' t (λ (q : Relation). not (is_fixed rules q)) x.0 x.1 (not_fixed_found rules acyclic x.0 x.2)))

-- The first item that passes a limit.

-- which limit is the first that an item passes, where the roles up to it are these
record PassesFirst (n : ℕ) (t : Tree) (rs : List Tree) (l : Limit) : Type 0 where
  passes : PassesWith rs n t l
  sooner : (m : Limit) → limit_place m < limit_place l → PassesWith rs n t m → ⊥

none_under : (rs : List Tree) (n : ℕ) (t : Tree) → limit_passed n rs t ≡ None → (m : Limit) → PassesWith (with_new rs (role_in t)) n t m → ⊥
none_under rs n t h rules_limit p = (limits_said n rs t h).0 p
none_under rs n t h variables_limit p = let k = (limits_said n rs t h).1.variables in omega arith
none_under rs n t h alternatives_limit p = let k = (limits_said n rs t h).1.alternatives in omega arith
none_under rs n t h roles_limit p = let k = (limits_said n rs t h).2 in omega arith

under_none : (rs : List Tree) (n : ℕ) (t : Tree) → ((m : Limit) → PassesWith (with_new rs (role_in t)) n t m → ⊥) → limit_passed n rs t ≡ None
under_none rs n t h =
    limits_found n rs t (λ e. h rules_limit e)
    (record {
      variables = low most_variables (count_different (variables t)) (λ p. h variables_limit p);
      alternatives =
          low most_alternatives (length (item_alternatives t)) (λ p. h alternatives_limit p);
    })
    (low most_roles (length (with_new rs (role_in t))) (λ p. h roles_limit p))
  where
    low : (m k : ℕ) → (m < k → ⊥) → k ≤ m
    low m k d = grind (arith, d)

some_over : (rs : List Tree) (n : ℕ) (t : Tree) (l : Limit) → limit_passed n rs t ≡ Some l → PassesFirst n t (with_new rs (role_in t)) l
some_over rs n t l h = go (n == suc most_items) (nat_lt most_variables (count_different (variables t)))
    (nat_lt most_alternatives (length (item_alternatives t))) (nat_lt most_roles (length (with_new rs (role_in t)))) refl refl refl refl h
  where
    go : (a b c d : Bool) → (n == suc most_items) ≡ a → nat_lt most_variables (count_different (variables t)) ≡ b
        → nat_lt most_alternatives (length (item_alternatives t)) ≡ c → nat_lt most_roles (length (with_new rs (role_in t))) ≡ d
        → cond a (Some rules_limit) (cond b (Some variables_limit) (cond c (Some alternatives_limit) (cond d (Some roles_limit) None))) ≡ Some l
        → PassesFirst n t (with_new rs (role_in t)) l
    go true b c d e f g i k = subst (PassesFirst n t (with_new rs (role_in t))) (let s : rules_limit ≡ l = cc in
        s) (record { passes = eqb-true n (suc most_items) e; sooner = λ m lt. absurd (omega arith) })
    go false true c d e f g i k = subst (PassesFirst n t (with_new rs (role_in t))) (let s : variables_limit ≡ l = cc in s)
        (record { passes = over most_variables (count_different (variables t)) f; sooner = before_variables })
      where
        before_variables : (m : Limit) → limit_place m < 1 → PassesWith (with_new rs (role_in t)) n t m → ⊥
        before_variables rules_limit lt p = let q : (n == suc most_items) ≡ true = eq-eqb n (suc most_items) p in absurd cc
        before_variables variables_limit lt p = absurd (omega arith)
        before_variables alternatives_limit lt p = absurd (omega arith)
        before_variables roles_limit lt p = absurd (omega arith)

        over : (m k : ℕ) → nat_lt m k ≡ true → m < k
        over m k h = grind (arith, nat_tests)
    go false false true d e f g i k = subst (PassesFirst n t (with_new rs (role_in t))) (let s : alternatives_limit ≡ l = cc in s)
        (record { passes = over most_alternatives (length (item_alternatives t)) g; sooner = before_alternatives })
      where
        over : (m k : ℕ) → nat_lt m k ≡ true → m < k
        over m k h = grind (arith, nat_tests)

        not_over : (m k : ℕ) → nat_lt m k ≡ false → m < k → ⊥
        not_over m k h lt = grind (arith, nat_tests)

        before_alternatives : (m : Limit) → limit_place m < 2 → PassesWith (with_new rs (role_in t)) n t m → ⊥
        before_alternatives rules_limit lt p = let q : (n == suc most_items) ≡ true = eq-eqb n (suc most_items) p in absurd cc
        before_alternatives variables_limit lt p = not_over most_variables (count_different (variables t)) f p
        before_alternatives alternatives_limit lt p = absurd (omega arith)
        before_alternatives roles_limit lt p = absurd (omega arith)
    go false false false true e f g i k = subst (PassesFirst n t (with_new rs (role_in t))) (let s : roles_limit ≡ l = cc in s)
        (record { passes = over most_roles (length (with_new rs (role_in t))) i; sooner = before_roles })
      where
        over : (m k : ℕ) → nat_lt m k ≡ true → m < k
        over m k h = grind (arith, nat_tests)

        not_over : (m k : ℕ) → nat_lt m k ≡ false → m < k → ⊥
        not_over m k h lt = grind (arith, nat_tests)

        before_roles : (m : Limit) → limit_place m < 3 → PassesWith (with_new rs (role_in t)) n t m → ⊥
        before_roles rules_limit lt p = let q : (n == suc most_items) ≡ true = eq-eqb n (suc most_items) p in absurd cc
        before_roles variables_limit lt p = not_over most_variables (count_different (variables t)) f p
        before_roles alternatives_limit lt p = not_over most_alternatives (length (item_alternatives t)) g p
        before_roles roles_limit lt p = absurd (omega arith)
    go false false false false e f g i k = absurd cc

-- an item that passes one limit first passes no other first
over_some : (rs : List Tree) (n : ℕ) (t : Tree) (l : Limit) → PassesFirst n t (with_new rs (role_in t)) l → limit_passed n rs t ≡ Some l
over_some rs n t l p = go (limit_passed n rs t) refl
  where
    same : (m : Limit) → PassesFirst n t (with_new rs (role_in t)) m → m ≡ l
    same m q = by_place m l (apart (limit_place m) (limit_place l) (λ lt. p.sooner m lt q.passes) (λ lt. q.sooner l lt p.passes))
      where
        apart : (a b : ℕ) → (a < b → ⊥) → (b < a → ⊥) → a ≡ b
        apart a b d e = grind (arith, d, e)

        by_place : (a b : Limit) → limit_place a ≡ limit_place b → a ≡ b
        by_place rules_limit rules_limit e = refl
        by_place rules_limit variables_limit e = absurd (omega arith)
        by_place rules_limit alternatives_limit e = absurd (omega arith)
        by_place rules_limit roles_limit e = absurd (omega arith)
        by_place variables_limit rules_limit e = absurd (omega arith)
        by_place variables_limit variables_limit e = refl
        by_place variables_limit alternatives_limit e = absurd (omega arith)
        by_place variables_limit roles_limit e = absurd (omega arith)
        by_place alternatives_limit rules_limit e = absurd (omega arith)
        by_place alternatives_limit variables_limit e = absurd (omega arith)
        by_place alternatives_limit alternatives_limit e = refl
        by_place alternatives_limit roles_limit e = absurd (omega arith)
        by_place roles_limit rules_limit e = absurd (omega arith)
        by_place roles_limit variables_limit e = absurd (omega arith)
        by_place roles_limit alternatives_limit e = absurd (omega arith)
        by_place roles_limit roles_limit e = refl

    go : (o : Option Limit) → limit_passed n rs t ≡ o → limit_passed n rs t ≡ Some l
    go None e = absurd (none_under rs n t e l p.passes)
    go (Some m) e = e ∙ ap (λ (x : Limit). Some x) (same m (some_over rs n t m e))

record Over (n : ℕ) (rs : List Tree) (ts : List Tree) (f : ItemFault) : Type 0 where
  place : ℕ
  limit : Limit
  fault_is : f ≡ too_many (n + place) limit
  item : Tree
  here : ItemStandsAt ts place item
  passes : PassesFirst (n + place) item (roles_from rs (take (suc place) ts)) limit
  before : (k : ℕ) (t : Tree) (m : Limit) → k < place → ItemStandsAt ts k t → PassesWith (roles_from rs (take (suc k) ts)) (n + k) t m → ⊥

over_said : (n : ℕ) (rs ts : List Tree) (f : ItemFault) → first_too_many n rs ts ≡ Some f → Over n rs ts f
over_said n rs [] f h = absurd cc
over_said n rs (t ∷ ts) f h = go (limit_passed n rs t) refl h (λ k. over_said (suc n) (with_new rs (role_in t)) ts f k)
  where
    zero_more : n ≡ n + 0
    zero_more = omega arith

    go : (o : Option Limit) → limit_passed n rs t ≡ o → or_item_fault (too_many_at n o) (first_too_many (suc n) (with_new rs (role_in t)) ts) ≡ Some f
        → (first_too_many (suc n) (with_new rs (role_in t)) ts ≡ Some f → Over (suc n) (with_new rs (role_in t)) ts f) → Over n rs (t ∷ ts) f
    go (Some l) e k more = record {
      place = 0;
      limit = l;
      fault_is = (let s : f ≡ too_many n l = cc in s ∙ ap (λ (m : ℕ). too_many m l) zero_more);
      item = t;
      here = refl;
      passes = subst (λ (m : ℕ). PassesFirst m t (with_new rs (role_in t)) l) zero_more (some_over rs n t l e);
      before = λ j u m lt. absurd (omega arith);
    }
    go None e k more =
        let r = more k in
        record {
          place = suc r.place;
          limit = r.limit;
          fault_is = r.fault_is ∙ ap (λ (m : ℕ). too_many m r.limit) (shift r.place);
          item = r.item;
          here = r.here;
          passes = subst (λ (m : ℕ). PassesFirst m r.item (roles_from (with_new rs (role_in t)) (take (suc r.place) ts)) r.limit)
              (shift r.place) r.passes;
          before = earlier r.place r.before;
        }
      where
        shift : (k : ℕ) → suc n + k ≡ n + suc k
        shift k = omega arith

        earlier : (place : ℕ) → ((j : ℕ) (u : Tree) (m : Limit) → j < place → ItemStandsAt ts j u
            → PassesWith (roles_from (with_new rs (role_in t)) (take (suc j) ts)) (suc n + j) u m → ⊥)
            → (j : ℕ) (u : Tree) (m : Limit) → j < suc place → ItemStandsAt (t ∷ ts) j u → PassesWith (roles_from rs (take (suc j) (t ∷ ts))) (n + j) u m
            → ⊥
        earlier place b zero u m lt s p =
            none_under rs n t e m (subst (λ (x : Tree). PassesWith (with_new rs (role_in t)) n x m) s
            (subst (λ (k : ℕ). PassesWith (with_new rs (role_in t)) k u m) (sym zero_more) p))
        earlier place b (suc j) u m lt s p =
            b j u m (omega arith) s (subst (λ (k : ℕ). PassesWith (roles_from (with_new rs (role_in t)) (take (suc j) ts)) k u m) (sym (shift j)) p)

over_found : (n : ℕ) (rs ts : List Tree) (k : ℕ) (t : Tree) (l : Limit) → ItemStandsAt ts k t → PassesFirst (n + k) t (roles_from rs (take (suc k) ts)) l
    → ((j : ℕ) (u : Tree) (m : Limit) → j < k → ItemStandsAt ts j u → PassesWith (roles_from rs (take (suc j) ts)) (n + j) u m → ⊥)
    → first_too_many n rs ts ≡ Some (too_many (n + k) l)
over_found n rs [] k t l s p b = absurd s
over_found n rs (u ∷ us) zero t l s p b =
    let z : n + 0 ≡ n = omega arith in
    let here = over_some rs n u l (subst (λ (x : Tree). PassesFirst n x (with_new rs (role_in u)) l) s
    (subst (λ (m : ℕ). PassesFirst m t (with_new rs (role_in u)) l) z p)) in
    ap (λ (o : Option Limit). or_item_fault (too_many_at n o) (first_too_many (suc n) (with_new rs (role_in u)) us)) here
    ∙ ap (λ (m : ℕ). Some (too_many m l)) (sym z)
over_found n rs (u ∷ us) (suc k) t l s p b =
    let z : n + 0 ≡ n = omega arith in
    let here = under_none rs n u (λ m q. b 0 u m (omega arith) refl (subst (λ (j : ℕ). PassesWith (with_new rs (role_in u)) j u m) (sym z) q)) in
    ap (λ (o : Option Limit). or_item_fault (too_many_at n o) (first_too_many (suc n) (with_new rs (role_in u)) us)) here
    ∙ over_found (suc n) (with_new rs (role_in u)) us k t l s
    (subst (λ (m : ℕ). PassesFirst m t (roles_from (with_new rs (role_in u)) (take (suc k) us)) l) (sym (shift k)) p)
    (λ j v m lt c q. b (suc j) v m (omega arith) c
    (subst (λ (i : ℕ). PassesWith (roles_from (with_new rs (role_in u)) (take (suc j) us)) i v m) (shift j) q))
    ∙ ap (λ (m : ℕ). Some (too_many m l)) (shift k)
  where
    shift : (i : ℕ) → suc n + i ≡ n + suc i
    shift i = omega arith

-- The law.

or_some : (a b : Option ItemFault) (f : ItemFault) → or_item_fault a b ≡ Some f → (a ≡ Some f) ⊎ ((a ≡ None) × (b ≡ Some f))
or_some None b f h = inr (refl, h)
or_some (Some g) b f h = inl h

abbrev after_words : List Tree → Option ItemFault
after_words items =
    or_item_fault (first_too_many 1 [] items)
    (or_item_fault (first_failing not_safe is_unsafe 1 items)
    (or_item_fault (first_failing recursive (is_recursive (dependences (alternatives items))) 1 items)
    (or_item_fault (first_failing bad_dependence (depends_badly (dependences (alternatives items)) (alternatives items)) 1 items)
    (none_of (roles items)))))

forms_each : (items : List Tree) → first_failing bad_form (λ (t : Tree). not (is_item t)) 1 items ≡ None → Each HasForm items
forms_each items h t a = not_not _ (none_fails bad_form (λ (u : Tree). not (is_item u)) 1 items h t a)

words_each : (items : List Tree) → first_failing bad_keyword misuses_word 1 items ≡ None → Each UsesWordsWell items
words_each items h t a = words_said t (none_fails bad_keyword misuses_word 1 items h t a)

limits_all : (items : List Tree) → first_too_many 1 [] items ≡ None → AllKeepLimits items
limits_all items h =
    let k = many_said 1 [] items (omega arith) (omega arith) h in
    let few = k.few in
    record { few_items = omega arith; each = k.each; few_roles = k.few_roles }

safe_all : (items : List Tree) → first_failing not_safe is_unsafe 1 items ≡ None → Each IsSafeItem items
safe_all items h t a = safe_item t (none_fails not_safe is_unsafe 1 items h t a)

over_law : (items : List Tree) (f : ItemFault) → first_too_many 1 [] items ≡ Some f → (n : ℕ) × (l : Limit) × (f ≡ too_many n l) × IsFirstOver items n l
over_law items f h =
    let r = over_said 1 [] items f h in
    let shift : (k : ℕ) → 1 + k ≡ suc k = λ k. omega arith in (
      1 + r.place,
      r.limit,
      r.fault_is,
      record {
        place = r.place;
        number = shift r.place;
        item = r.item;
        here = r.here;
        passes = subst (λ (m : ℕ). PassesWith (roles (take m items)) (1 + r.place) r.item r.limit) (sym (shift r.place)) r.passes.passes;
        sooner = λ m lt p. r.passes.sooner m lt (subst (λ (k : ℕ). PassesWith (roles (take k items)) (1 + r.place) r.item m) (shift r.place) p);
        before = λ k t m lt s p. r.before k t m lt s (subst (λ (j : ℕ). PassesWith (roles (take (suc k) items)) j t m) (sym (shift k)) p);
      },
    )

law_over : (items : List Tree) (n : ℕ) (l : Limit) → IsFirstOver items n l → first_too_many 1 [] items ≡ Some (too_many n l)
law_over items n l i =
    let shift : (k : ℕ) → 1 + k ≡ suc k = λ k. omega arith in
    let number : n ≡ 1 + i.place = i.number ∙ sym (shift i.place) in
    over_found 1 [] items i.place i.item l i.here
    (record {
      passes = subst (λ (m : ℕ). PassesWith (roles (take (suc i.place) items)) m i.item l) number
          (subst (λ (m : ℕ). PassesWith (roles (take m items)) n i.item l) i.number i.passes);
      sooner = λ m lt p. i.sooner m lt (subst (λ (k : ℕ). PassesWith (roles (take k items)) n i.item m) (sym i.number)
          (subst (λ (k : ℕ). PassesWith (roles (take (suc i.place) items)) k i.item m) (sym number) p));
    })
    (λ j u m lt s p. i.before j u m lt s (subst (λ (k : ℕ). PassesWith (roles (take (suc j) items)) k u m) (shift j) p))
    ∙ ap (λ (m : ℕ). Some (too_many m l)) (sym number)

last_said : (rs : List Tree) (f : ItemFault) → none_of rs ≡ Some f → (f ≡ no_role) × (rs ≡ [])
last_said [] f h = ((let s : f ≡ no_role = cc in s), refl)
last_said (r ∷ rs) f h = absurd cc

pub fault_said : (items : List Tree) (f : ItemFault) → item_fault_in items ≡ Some f → HasFault items f
fault_said items f e =
    forms (or_some (first_failing bad_form (λ (t : Tree). not (is_item t)) 1 items)
    (or_item_fault (first_failing bad_keyword misuses_word 1 items) (after_words items)) f e)
  where
    forms : (first_failing bad_form (λ (t : Tree). not (is_item t)) 1 items ≡ Some f)
        ⊎ ((first_failing bad_form (λ (t : Tree). not (is_item t)) 1 items ≡ None)
        × (or_item_fault (first_failing bad_keyword misuses_word 1 items) (after_words items) ≡ Some f)) → HasFault items f
    forms (inl h) =
        let r = named_said bad_form (λ (t : Tree). not (is_item t)) (λ (t : Tree). HasForm t → ⊥) items f form_yes form_never h in
        subst (HasFault items) (sym r.1) r.2
    forms (inr h) = places (or_some (first_failing bad_keyword misuses_word 1 items) (after_words items) f h.1) (forms_each items h.0)
      where
        places : (first_failing bad_keyword misuses_word 1 items ≡ Some f)
            ⊎ ((first_failing bad_keyword misuses_word 1 items ≡ None) × (after_words items ≡ Some f)) → Each HasForm items → HasFault items f
        places (inl h') have =
            let r = named_said bad_keyword misuses_word (λ (t : Tree). UsesWordsWell t → ⊥) items f words_yes (λ t m d. d (words_said t m)) h' in
            subst (HasFault items) (sym r.1) (have, r.2)
        places (inr h') have = many (or_some (first_too_many 1 [] items) _ f h'.1) (words_each items h'.0)
          where
            many : (first_too_many 1 [] items ≡ Some f) ⊎ ((first_too_many 1 [] items ≡ None)
                × (or_item_fault (first_failing not_safe is_unsafe 1 items)
                (or_item_fault (first_failing recursive (is_recursive (dependences (alternatives items))) 1 items)
                (or_item_fault (first_failing bad_dependence (depends_badly (dependences (alternatives items)) (alternatives items)) 1 items)
                (none_of (roles items)))) ≡ Some f)) → Each UsesWordsWell items → HasFault items f
            many (inl k) placed = let r = over_law items f k in subst (HasFault items) (sym r.2) (have, placed, r.3)
            many (inr k) placed = risks (or_some (first_failing not_safe is_unsafe 1 items) _ f k.1) (limits_all items k.0)
              where
                risks : (first_failing not_safe is_unsafe 1 items ≡ Some f) ⊎ ((first_failing not_safe is_unsafe 1 items ≡ None)
                    × (or_item_fault (first_failing recursive (is_recursive (dependences (alternatives items))) 1 items)
                    (or_item_fault (first_failing bad_dependence (depends_badly (dependences (alternatives items)) (alternatives items)) 1 items)
                    (none_of (roles items))) ≡ Some f)) → AllKeepLimits items → HasFault items f
                risks (inl x) keep =
                    let r = named_said not_safe is_unsafe (λ (t : Tree). IsSafeItem t → ⊥) items f unsafe_yes (λ t m d. d (safe_item t m)) x in
                    subst (HasFault items) (sym r.1) (have, placed, keep, r.2)
                risks (inr x) keep = cycles (or_some (first_failing recursive (is_recursive (dependences (alternatives items))) 1 items) _ f x.1)
                    (safe_all items x.0)
                  where
                    cycles : (first_failing recursive (is_recursive (dependences (alternatives items))) 1 items ≡ Some f)
                        ⊎ ((first_failing recursive (is_recursive (dependences (alternatives items))) 1 items ≡ None)
                        × (or_item_fault (first_failing bad_dependence (depends_badly (dependences (alternatives items)) (alternatives items)) 1 items)
                        (none_of (roles items)) ≡ Some f))
                        → Each IsSafeItem items → HasFault items f
                    cycles (inl y) safe =
                        let r = named_said recursive (is_recursive (dependences (alternatives items))) (RestsOnItself (alternatives items)) items f
                        (itself_yes (alternatives items))
                        (λ t m d. let back = itself_back (alternatives items) t d in absurd cc) y in
                        subst (HasFault items) (sym r.1) (have, placed, keep, safe, r.2)
                    cycles (inr y) safe =
                        badly (or_some (first_failing bad_dependence (depends_badly (dependences (alternatives items)) (alternatives items)) 1 items)
                        (none_of (roles items)) f y.1) (straight_acyclic items y.0)
                      where
                        badly : (first_failing bad_dependence (depends_badly (dependences (alternatives items)) (alternatives items)) 1 items
                            ≡ Some f)
                            ⊎ ((first_failing bad_dependence (depends_badly (dependences (alternatives items)) (alternatives items)) 1 items ≡ None)
                            × (none_of (roles items) ≡ Some f))
                            → IsAcyclic (alternatives items) → HasFault items f
                        badly (inl z) acyclic =
                            let r = named_said bad_dependence (depends_badly (dependences (alternatives items)) (alternatives items))
                            (RestsBadly (alternatives items)) items f (badly_yes (alternatives items) acyclic)
                            (λ t m d. let back = badly_back (alternatives items) acyclic t d in absurd cc) z in
                            subst (HasFault items) (sym r.1) (have, placed, keep, safe, acyclic, r.2)
                        badly (inr z) acyclic =
                            let r = last_said (roles items) f z.1 in
                            subst (HasFault items) (sym r.0) (
                              have,
                              placed,
                              keep,
                              safe,
                              acyclic,
                              rests_said items acyclic
                                  (none_fails bad_dependence (depends_badly (dependences (alternatives items)) (alternatives items)) 1 items z.0),
                              r.1,
                            )

forms_none : (items : List Tree) → Each HasForm items → first_failing bad_form (λ (t : Tree). not (is_item t)) 1 items ≡ None
forms_none items h = all_pass bad_form (λ (t : Tree). not (is_item t)) 1 items (λ t a. ap not (h t a))

words_none : (items : List Tree) → Each UsesWordsWell items → first_failing bad_keyword misuses_word 1 items ≡ None
words_none items h = all_pass bad_keyword misuses_word 1 items (λ t a. words_found t (h t a))

limits_none : (items : List Tree) → AllKeepLimits items → first_too_many 1 [] items ≡ None
limits_none items k = let few = k.few_items in many_found 1 [] items (record { few = omega arith; each = k.each; few_roles = k.few_roles })

safe_none : (items : List Tree) → Each IsSafeItem items → first_failing not_safe is_unsafe 1 items ≡ None
safe_none items h = all_pass not_safe is_unsafe 1 items (λ t a. item_safe t (h t a))

straight_none : (items : List Tree) → IsAcyclic (alternatives items)
    → first_failing recursive (is_recursive (dependences (alternatives items))) 1 items ≡ None
straight_none items h = all_pass recursive (is_recursive (dependences (alternatives items))) 1 items (acyclic_found items h)

-- a test that a property does not hold
false_of : (b : Bool) (Q : Type 0) → (b ≡ true → Q) → (Q → ⊥) → b ≡ false
false_of true Q h d = absurd (d (h refl))
false_of false Q h d = refl

pub fault_found : (items : List Tree) (f : ItemFault) → HasFault items f → item_fault_in items ≡ Some f
fault_found items (bad_form n) h =
    rw (named_found bad_form (λ (t : Tree). not (is_item t)) (λ (t : Tree). HasForm t → ⊥) items n
    (λ t d. decided_no (not (is_item t)) (HasForm t) (λ e. not_not _ e) d)
    (λ t d. false_of (not (is_item t)) (HasForm t → ⊥) (form_yes t) d) h) refl
fault_found items (bad_keyword n) h =
    rw (
      forms_none items h.0,
      named_found bad_keyword misuses_word (λ (t : Tree). UsesWordsWell t
          → ⊥) items n (λ t d. decided_no (misuses_word t) (UsesWordsWell t) (words_said t) d)
          (λ t d. false_of (misuses_word t) (UsesWordsWell t → ⊥) (words_yes t) d) h.1,
    ) refl
fault_found items (too_many n l) h = rw (forms_none items h.0, words_none items h.1, law_over items n l h.2) refl
fault_found items (not_safe n) h =
    rw (
      forms_none items h.0,
      words_none items h.1,
      limits_none items h.2,
      named_found not_safe is_unsafe (λ (t : Tree). IsSafeItem t → ⊥) items n (λ t d. decided_no (is_unsafe t) (IsSafeItem t) (safe_item t) d)
          (λ t d. false_of (is_unsafe t) (IsSafeItem t → ⊥) (unsafe_yes t) d) h.3,
    ) refl
fault_found items (recursive n) h =
    rw (
      forms_none items h.0,
      words_none items h.1,
      limits_none items h.2,
      safe_none items h.3,
      named_found recursive (is_recursive (dependences (alternatives items))) (RestsOnItself (alternatives items)) items n
          (itself_back (alternatives items))
          (λ t d. false_of (is_recursive (dependences (alternatives items)) t) (RestsOnItself (alternatives items) t)
          (itself_yes (alternatives items) t) d) h.4,
    ) refl
fault_found items (bad_dependence n) h =
    rw (
      forms_none items h.0,
      words_none items h.1,
      limits_none items h.2,
      safe_none items h.3,
      straight_none items h.4,
      named_found bad_dependence (depends_badly (dependences (alternatives items)) (alternatives items)) (RestsBadly (alternatives items)) items n
          (badly_back (alternatives items) h.4)
          (λ t d. false_of (depends_badly (dependences (alternatives items)) (alternatives items) t) (RestsBadly (alternatives items) t)
          (badly_yes (alternatives items) h.4 t) d) h.5,
    ) refl
fault_found items no_role h =
    rw (
      forms_none items h.0,
      words_none items h.1,
      limits_none items h.2,
      safe_none items h.3,
      straight_none items h.4,
      all_pass bad_dependence (depends_badly (dependences (alternatives items)) (alternatives items)) 1 items (rests_found items h.4 h.5),
      h.6,
    ) refl
