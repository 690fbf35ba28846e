-- Items of which some relations are stated in another way, as rules.
use Rattle.std.proofs.Common.{ℕ, zero, suc, ◌+◌, ◌<◌, ◌≤◌, arith, get_or, cond, append-nil, Bool, true, false, not, ◌&&◌, ◌||◌, ◌≡◌, ◌⊎◌, ◌↔◌, inl, inr, List, [], ◌∷◌, ◌++◌, length, take, drop, filter, refl, sym, ap, subst, ◌∙◌, append_assoc}
use Rattle.std.specs.Bool.{OnTrue}
use Rattle.std.proofs.lemmas.List.{map-append, take-append-drop}
use Rattle.statement.specs.Tree.{Tree, Trees, no_trees, tree, tree_eq, trees_eq, trees_of}
use Rattle.statement.specs.Words.{w_init, w_next, w_legal}
use Rattle.statement.specs.Clause.{Atom, Literal, Alternative, Relation, relation_of, relation_eq, atom_of}
use Rattle.statement.specs.Dependence.{IsAmong, is_among}
use Rattle.statement.specs.Items.{alternatives, item_alternatives, item_head, body_trees}
use Rattle.statement.specs.Meaning.{atom1, atom2, IsRole, IsBase, IsInput}
use Rattle.statement.specs.Listing.{listing, role_list, base_list, input_list}
use Rattle.statement.specs.Profile.{is_tree_in}
use Rattle.kif.specs.View.{tree_of, trees_in}
use Rattle.kif.specs.declared.expr.Expr.{Expr}
use Rattle.kif.proofs.Facts.{tree_eq_yes, trees_eq_yes}
use Rattle.statement.specs.GoalsAndMoves.{is_dropped, dropped}
use Rattle.rules_profile.proofs.Facts.{rule_item, same_head, relation_eq_self}
use Rattle.rules_profile.specs.Standing.{literals_of_all}
use Rattle.rules_relations.specs.Asking.{heads_it, asks_it, some_item}
use Rattle.rules_relations.specs.Probes.{some_of}
use Rattle.meaning.specs.Kept.{HeadsKept, IsPossible}
use Rattle.meaning.specs.Possible.{IsStated, is_play}
use Rattle.meaning.specs.Extension.{IsUnspoken, IsRewriting, IsAnswered, IsClosed, base_relation, input_relation}
use Rattle.unroll_strata.specs.Adding.{IsUnspokenIn, Rewrites, heads_own, kept_items, heads_one_of}
use Rattle.meaning.proofs.Facts.{among_filter, among_filter_in}
use Rattle.unroll_strata.proofs.Readings.{join, split, stands_in_item}

alternatives_append : (xs ys : List Tree) → alternatives (xs ++ ys) ≡ alternatives xs ++ alternatives ys
alternatives_append [] ys = refl
alternatives_append (x ∷ xs) ys =
    ap (λ (rs : List Alternative). item_alternatives x ++ rs) (alternatives_append xs ys)
    ∙ sym (append_assoc (item_alternatives x) (alternatives xs) (alternatives ys))

left_false : (a b : Bool) → (a || b) ≡ false → a ≡ false
left_false true b h = absurd (let bad : ⊥ = cc in bad)
left_false false b h = refl

right_false : (a b : Bool) → (a || b) ≡ false → b ≡ false
right_false true b h = absurd (let bad : ⊥ = cc in bad)
right_false false b h = h

no_item : (test : Tree → Bool) (ts : List Tree) (t : Tree) → some_item test ts ≡ false → IsAmong t ts → test t ≡ false
no_item test [] t h a = absurd a
no_item test (u ∷ ts) t h (inl e) = ap test e ∙ left_false (test u) (some_item test ts) h
no_item test (u ∷ ts) t h (inr a) = no_item test ts t (right_false (test u) (some_item test ts) h) a

no_literal : (test : Literal → Bool) (ls : List Literal) (l : Literal) → some_of test ls ≡ false → IsAmong l ls → test l ≡ false
no_literal test [] l h a = absurd a
no_literal test (k ∷ ls) l h (inl e) = ap test e ∙ left_false (test k) (some_of test ls) h
no_literal test (k ∷ ls) l h (inr a) = no_literal test ls l (right_false (test k) (some_of test ls) h) a

differ : (p q : Relation) → relation_eq p q ≡ false → p ≡ q → ⊥
differ p q h e = let k = ap (λ (r : Relation). relation_eq r q) e in let m = relation_eq_self q in cc

-- what no item heads or asks no rule does
unspoken : (items : List Tree) (p : Relation) → IsUnspokenIn items p → IsUnspoken (alternatives items) p
unspoken items p u = (
  λ s. let i = rule_item items s.0 s.1 in
      differ (relation_of (item_head i.0)) p (no_item (heads_it p) items i.0 u.0 i.1) (ap relation_of (sym (same_head (item_head i.0) _ s.0 i.2)) ∙ s.2),
  λ s. let i = rule_item items s.0 s.1 in
      let l = s.2.0 in
      differ (relation_of (atom_of l)) p
      (no_literal (λ (k : Literal). relation_eq (relation_of (atom_of k)) p) (literals_of_all (body_trees i.0)) l
      (no_item (asks_it p) items i.0 u.1 i.1) (stands_in_item i.0 s.0 i.2 l s.2.1)) s.2.2,
  u.2,
)

-- the rules of an item of a list are among those of the list
pub item_rule : (items : List Tree) (t : Tree) (rule : Alternative) → IsAmong t items → IsAmong rule (item_alternatives t)
    → IsAmong rule (alternatives items)
item_rule [] t rule a r = absurd a
item_rule (u ∷ items) t rule (inl e) r =
    join rule (item_alternatives u) (alternatives items) (inl (subst (λ (v : Tree). IsAmong rule (item_alternatives v)) e r))
item_rule (u ∷ items) t rule (inr a) r = join rule (item_alternatives u) (alternatives items) (inr (item_rule items t rule a r))

pub rewriting : (own : List Relation) (items out : List Tree) → Rewrites own items out
    → IsAnswered (alternatives items) (alternatives out) (λ p. is_among p own) → IsRewriting (alternatives items) (alternatives out) (λ p. is_among p own)
rewriting own items out re answered = record { has = has; more = λ rule a other. more rule other (rule_item out rule a); stated = answered }
  where
    free : Tree → Bool
    free t = not (heads_own own t)

    other_head : (t : Tree) (rule : Alternative) → IsAmong rule (item_alternatives t) → relation_of rule.head ≡ relation_of (item_head t)
    other_head t rule r = ap relation_of (same_head (item_head t) _ rule r)

    is_free : (t : Tree) (rule : Alternative) → IsAmong rule (item_alternatives t) → is_among (relation_of rule.head) own ≡ false
        → not (heads_own own t) ≡ true
    is_free t rule r other = ap (λ (p : Relation). not (is_among p own)) (sym (other_head t rule r)) ∙ ap not other

    has : (rule : Alternative) → IsAmong rule (alternatives items) → is_among (relation_of rule.head) own ≡ false → IsAmong rule (alternatives out)
    has rule a other =
        let i = rule_item items rule a in
        let stands = among_filter_in (λ (t : Tree). not (heads_own own t)) i.0 items i.1 (is_free i.0 rule i.2 other) in
        let there = subst (λ (ts : List Tree). IsAmong i.0 ts) (sym re.1) (join i.0 (kept_items own items) re.0 (inl stands)) in
        item_rule out i.0 rule (among_filter (λ (t : Tree). not (heads_own own t)) i.0 out there).0 i.2

    more : (rule : Alternative) → is_among (relation_of rule.head) own ≡ false → (t : Tree) × IsAmong t out × IsAmong rule (item_alternatives t)
        → IsAmong rule (alternatives items) ⊎ IsUnspoken (alternatives items) (relation_of rule.head)
    more rule other i =
        let stands = among_filter_in (λ (t : Tree). not (heads_own own t)) i.0 out i.1 (is_free i.0 rule i.2 other) in
        go (split i.0 (kept_items own items) re.0 (subst (λ (ts : List Tree). IsAmong i.0 ts) re.1 stands))
      where
        go : IsAmong i.0 (kept_items own items) ⊎ IsAmong i.0 re.0
            → IsAmong rule (alternatives items) ⊎ IsUnspoken (alternatives items) (relation_of rule.head)
        go (inl a) = inl (item_rule items i.0 rule (among_filter (λ (t : Tree). not (heads_own own t)) i.0 items a).0 i.2)
        go (inr a) = inr (subst (IsUnspoken (alternatives items)) (sym (other_head i.0 rule i.2)) (unspoken items (relation_of (item_head i.0)) (re.2 i.0 a)))

-- What may come, where nothing is dropped.

none_filtered : (test : Atom → Bool) (xs : List Atom) (x : Atom) → length (filter test xs) ≡ 0 → IsAmong x xs → test x ≡ true → ⊥
none_filtered test [] x h a t = absurd a
none_filtered test (y ∷ xs) x h a t = go (λ k m. none_filtered test xs x k m t) (test y) refl a
  where
    go : (length (filter test xs) ≡ 0 → IsAmong x xs → ⊥) → (b : Bool) → test y ≡ b → IsAmong x (y ∷ xs) → ⊥
    go later true e m = let bad : ⊥ = cc in bad
    go later false e (inl s) = let k = ap test s in let bad : ⊥ = cc in bad
    go later false e (inr m) = later (let k : length (filter test xs) ≡ 0 = cc in k) m

tree_there : (t : Tree) (us : List Tree) → is_tree_in t us ≡ true → IsAmong t us
tree_there t [] h = absurd (let bad : ⊥ = cc in bad)
tree_there t (u ∷ us) h = go (λ k. tree_there t us k) (tree_eq t u) refl h
  where
    go : (is_tree_in t us ≡ true → IsAmong t us) → (b : Bool) → tree_eq t u ≡ b → (b || is_tree_in t us) ≡ true → IsAmong t (u ∷ us)
    go later true e k = inl (tree_eq_yes t u e)
    go later false e k = inr (later k)

module _ (out : List Alternative)
    (atoms : (x : Atom) → IsAmong x (listing out).atoms ↔ IsPossible out x)
    (bases : (p : Tree) → IsAmong p (base_list out) ↔ IsBase out p)
    (none : dropped out ≡ 0)
  where
    kept_is_not_dropped : (x : Atom) → IsPossible out x → is_dropped out x ≡ true → ⊥
    kept_is_not_dropped x possible t = none_filtered (is_dropped out) (listing out).atoms x none ((atoms x).1 possible) t

    base_there : (x : Atom) (p : Tree) → IsPossible out x → (is_tree_in p (base_list out) ≡ false → is_dropped out x ≡ true) → IsBase out p
    base_there x p possible misses = go (is_tree_in p (base_list out)) refl
      where
        go : (b : Bool) → is_tree_in p (base_list out) ≡ b → IsBase out p
        go true e = (bases p).0 (tree_there p (base_list out) e)
        go false e = absurd (kept_is_not_dropped x possible (misses e))

    init_there : (p : Tree) → HeadsKept out (atom1 w_init p) → IsBase out p
    init_there p h = base_there (atom1 w_init p) p h (λ e. ap (λ (b : Bool). not b || false) e)

    -- what may come next can be in a state
    pub next_there : (p : Tree) → HeadsKept out (atom1 w_next p) → IsBase out p
    next_there p h = base_there (atom1 w_next p) p h (λ e. ap (λ (b : Bool). not b || false) e)

    module _ (rules : List Alternative) (inputs : (r m : Tree) → IsRole out r → IsAmong m (input_list out r) ↔ IsInput out r m) where
      input_there : (r m : Tree) → IsRole out r → IsPossible out (atom2 w_legal r m) → IsInput out r m
      input_there r m role possible = go (is_tree_in m (input_list out r)) refl
        where
          go : (b : Bool) → is_tree_in m (input_list out r) ≡ b → IsInput out r m
          go true e = (inputs r m role).0 (tree_there m (input_list out r) e)
          go false e = absurd (kept_is_not_dropped (atom2 w_legal r m) possible (missed (is_tree_in r (role_list out)) (is_tree_in m (input_list out r)) e))
            where
              missed : (a b : Bool) → b ≡ false → not (a && b) ≡ true
              missed true b f = ap not f
              missed false b f = refl

      pub closed : IsClosed rules out
      closed = record {
        base = λ unstated p comes. base_of p comes;
        inputs = λ unstated r m role heads. input_there r m role heads;
      }
        where
          base_of : (p : Tree) → HeadsKept out (atom1 w_init p) ⊎ HeadsKept out (atom1 w_next p) → IsBase out p
          base_of p (inl h) = init_there p h
          base_of p (inr h) = next_there p h

-- where both are stated nothing has to be shown
pub closed_by_words : (rules out : List Alternative) → IsStated rules base_relation → IsStated rules input_relation → IsClosed rules out
closed_by_words rules out base input = record {
  base = λ unstated p comes. absurd (unstated base);
  inputs = λ unstated r m role heads. absurd (unstated input);
}

-- Items in memory.

abbrev parts : Trees → List Tree
parts no_trees = []
parts (tree t ts) = t ∷ parts ts

parts_back : (ts : List Tree) → parts (trees_of ts) ≡ ts
parts_back [] = refl
parts_back (t ∷ ts) = ap (λ (us : List Tree). t ∷ us) (parts_back ts)

same_list : (ts us : List Tree) → trees_eq (trees_of ts) (trees_of us) ≡ true → ts ≡ us
same_list ts us h = sym (parts_back ts) ∙ ap parts (trees_eq_yes (trees_of ts) (trees_of us) h) ∙ parts_back us

pub on_true : (b : Bool) (P : Type 0) → (b ≡ true → P) → OnTrue b P
on_true true P h = h refl
on_true false P h = tt

pub true_on : (b : Bool) (P : Type 0) → OnTrue b P → b ≡ true → P
true_on true P h e = h
true_on false P h e = absurd (let bad : ⊥ = cc in bad)

pub on_not : (b : Bool) (P : Type 0) → (b ≡ false → P) → OnTrue (not b) P
on_not true P h = tt
on_not false P h = h refl

pub one_same : (ts us : List Tree) → trees_eq (trees_of ts) (trees_of us) ≡ true → ts ≡ us
one_same ts us h = same_list ts us h

pub same_places : {A : Type 0} (b : Bool) (one other ones firsts others seconds : List (Expr A)) (at place : ℕ) → at < length one → place < length other
    → ones ≡ drop at one → firsts ≡ take 1 ones → others ≡ drop place other → seconds ≡ take 1 others
    → b ≡ trees_eq (trees_of (trees_in firsts)) (trees_of (trees_in seconds))
    → OnTrue b ((at < length one) × (place < length other) × (trees_in (take 1 (drop at one)) ≡ trees_in (take 1 (drop place other))))
same_places b one other ones firsts others seconds at place inside there e f g h same = on_true b _ (λ k. (inside, there, here k))
  where
    here : b ≡ true → trees_in (take 1 (drop at one)) ≡ trees_in (take 1 (drop place other))
    here k =
        (λ i. trees_in (take 1 (sym e i))) ∙ ap trees_in (sym f) ∙ one_same (trees_in firsts) (trees_in seconds) (sym same ∙ k) ∙ ap trees_in h
        ∙ (λ i. trees_in (take 1 (g i)))

take_next : {X : Type 0} (n : ℕ) (xs : List X) → take (suc n) xs ≡ take n xs ++ take 1 (drop n xs)
take_next zero xs = refl
take_next (suc n) [] = refl
take_next {X} (suc n) (x ∷ xs) = ap (λ (ys : List X). x ∷ ys) (take_next n xs)

take_one : {X : Type 0} (n : ℕ) (xs : List X) → take (n + 1) xs ≡ take n xs ++ take 1 (drop n xs)
take_one n xs = let same : n + 1 ≡ suc n = omega arith in ap (λ (k : ℕ). take k xs) same ∙ take_next n xs

one_there : {X : Type 0} (xs : List X) (i : ℕ) (x : X) → i < length xs → x ≡ get_or xs i x → take 1 (drop i xs) ≡ x ∷ []
one_there [] i x h e = absurd (let bad : ⊥ = omega (arith, h) in bad)
one_there (y ∷ xs) zero x h e = ap (λ z. z ∷ []) (sym e)
one_there (y ∷ xs) (suc i) x h e = one_there xs i x (omega (arith, h)) e

kept_append : (own : List Relation) (ts us : List Tree) → kept_items own (ts ++ us) ≡ kept_items own ts ++ kept_items own us
kept_append own [] us = refl
kept_append own (t ∷ ts) us = go (not (heads_own own t)) (kept_append own ts us)
  where
    go : (b : Bool) → kept_items own (ts ++ us) ≡ kept_items own ts ++ kept_items own us
        → cond b (t ∷ kept_items own (ts ++ us)) (kept_items own (ts ++ us)) ≡ cond b (t ∷ kept_items own ts) (kept_items own ts) ++ kept_items own us
    go true e = ap (λ (vs : List Tree). t ∷ vs) e
    go false e = e

parts_more : {A : Type 0} (es : List (Expr A)) (n : ℕ) → trees_in (take (n + 1) es) ≡ trees_in (take n es) ++ trees_in (take 1 (drop n es))
parts_more {A} es n = ap trees_in (take_one n es) ∙ map-append (tree_of {A = A}) (take n es) (take 1 (drop n es))

module _ {A : Type 0} (own : List Relation) where
  kept_one : (es : List (Expr A)) (n : ℕ)
      → kept_items own (trees_in (take (n + 1) es)) ≡ kept_items own (trees_in (take n es)) ++ kept_items own (trees_in (take 1 (drop n es)))
  kept_one es n = ap (kept_items own) (parts_more es n) ∙ kept_append own (trees_in (take n es)) (trees_in (take 1 (drop n es)))

  -- an item of an own relation counts for nothing
  pub still_kept : (es : List (Expr A)) (place : ℕ) (e : Expr A) → place < length es → e ≡ get_or es place e → heads_own own (tree_of e) ≡ true
      → kept_items own (trees_in (take (place + 1) es)) ≡ kept_items own (trees_in (take place es))
  still_kept es place e inside is h =
      kept_one es place
      ∙ ap (λ (ts : List Tree). kept_items own (trees_in (take place es)) ++ ts)
      (ap (λ (fs : List (Expr A)). kept_items own (trees_in fs)) (one_there es place e inside is)
      ∙ ap (λ (b : Bool). cond (not b) (tree_of e ∷ []) []) h)
      ∙ append-nil (kept_items own (trees_in (take place es)))

  -- and the same item more on both sides
  pub kept_more : (items out : List (Expr A)) (place at : ℕ)
      → kept_items own (trees_in (take at out)) ≡ kept_items own (trees_in (take place items))
      → trees_in (take 1 (drop place items)) ≡ trees_in (take 1 (drop at out))
      → kept_items own (trees_in (take (at + 1) out)) ≡ kept_items own (trees_in (take (place + 1) items))
  kept_more items out place at before same =
      kept_one out at ∙ (λ i. before i ++ kept_items own (sym same i)) ∙ sym (kept_one items place)

  pub all_kept : (es : List (Expr A)) (n : ℕ) → length es ≤ n → kept_items own (trees_in (take n es)) ≡ kept_items own (trees_in es)
  all_kept es n h = ap (λ (fs : List (Expr A)). kept_items own (trees_in fs)) (take_all n es h)
    where
      take_all : (n : ℕ) (es : List (Expr A)) → length es ≤ n → take n es ≡ es
      take_all zero [] h = refl
      take_all (suc n) [] h = refl
      take_all zero (e ∷ es) h = absurd (let bad : ⊥ = omega (arith, h) in bad)
      take_all (suc n) (e ∷ es) h = ap (λ (fs : List (Expr A)). e ∷ fs) (take_all n es (omega (arith, h)))

  -- an item that stands in neither set, and heads no own relation, is one of which nothing is said
  pub rewritten_items : (items out more : List (Expr A)) (n : ℕ) (stated asked : List Relation)
      → kept_items own (trees_in (take n out)) ≡ kept_items own (trees_in items) → more ≡ drop n out
      → ((p : Relation) → is_among p stated ≡ some_item (heads_it p) (trees_in items))
      → ((p : Relation) → is_among p asked ≡ some_item (asks_it p) (trees_in items))
      → some_item (heads_one_of own stated asked) (trees_in more) ≡ false → Rewrites own (trees_in items) (trees_in out)
  rewritten_items items out more n stated asked begin rest heads asks none = (
    kept_items own (trees_in more),
    ap (kept_items own) (ap trees_in (sym (take-append-drop n out)) ∙ map-append (tree_of {A = A}) (take n out) (drop n out))
        ∙ kept_append own (trees_in (take n out)) (trees_in (drop n out)) ∙ (λ i. begin i ++ kept_items own (trees_in (sym rest i))),
    λ t a.
        let f = among_filter (λ (u : Tree). not (heads_own own u)) t (trees_in more) a in
        go t f.1 (no_item (heads_one_of own stated asked) (trees_in more) t none f.0),
  )
    where
      go : (t : Tree) → not (heads_own own t) ≡ true
          → heads_one_of own stated asked t ≡ false → IsUnspokenIn (trees_in items) (relation_of (item_head t))
      go t e k =
          let p = relation_of (item_head t) in
          let rest = is_among p asked || is_play p in
          let m : (is_among p stated || rest) ≡ false = ap (λ (b : Bool). b && (is_among p stated || rest)) (sym e) ∙ k in
          let n = right_false (is_among p stated) rest m in (
            sym (heads p) ∙ left_false (is_among p stated) rest m,
            sym (asks p) ∙ left_false (is_among p asked) (is_play p) n,
            right_false (is_among p asked) (is_play p) n,
          )
