-- The relations of literals, in lists and in sets.
use Rattle.std.proofs.Common.{ℕ, zero, suc, Bool, true, false, ◌≡◌, ◌<◌, ◌+◌, List, [], ◌∷◌, ◌++◌, map, drop, length, get_or, refl, sym, ap, subst, ◌∙◌, append_assoc, arith}
use Rattle.std.specs.Prelude.{◌&&◌, ◌||◌, ◌==◌, nat_eq}
use lib.Pointwise.{pointwise}
use Rattle.std.specs.List.{list_any}
use Rattle.std.specs.Ordering.{is_eq, match_ordering, nat_cmp, ordering_then}
use Rattle.std.specs.declared.cmp.Ordering.{Ordering}
use Rattle.std.specs.declared.cmp.Ordering.TheVariants.{Less, Equal, Greater}
use Rattle.std.specs.Cmp.{tied_then, unsigned_tied}
use Rattle.std.specs.Cmp.Lexicographic.{slice_cmp}
use Rattle.std.specs.BTreeSet.{insert_key}
use Rattle.std.proofs.lemmas.Map.Text.{is_eq-slice_cmp}
use Rattle.std.proofs.lemmas.List.{map-append}
use Rattle.std.proofs.lemmas.Bool.{eqb-true, eq-eqb}
use Rattle.statement.specs.Tree.{Tree, tree, trees_of, name_eq}
use Rattle.statement.specs.Clause.{Literal, Relation, relation_of, relation_eq, atom_of}
use Rattle.statement.specs.Dependence.{is_among}
use Rattle.kif.specs.View.{tree_of, trees_in}
use Rattle.kif.specs.declared.expr.Expr.{Expr}
use Rattle.kif.proofs.Facts.{parts_from}
use Rattle.rules_profile.specs.Standing.{literals_in, literals_of_all}
use Rattle.rules_profile.proofs.Facts.{relation_eq_yes}
use Rattle.rules_relations.specs.declared.relation.Relation as memory
use Rattle.rules_relations.specs.Relations.{relation_in}
use Rattle.rules_relations.specs.Probes.{some_of}
use Rattle.rules_relations.specs.Asking.{relations_of, some_item}

pub relations_append : (xs ys : List Literal) → relations_of (xs ++ ys) ≡ relations_of xs ++ relations_of ys
relations_append xs ys = map-append (λ l. relation_of (atom_of l)) xs ys

-- one tree more
pub one_gathered : {A : Type 0} (es : List (Expr A)) (i : ℕ) (e : Expr A) (before now next all : List Relation) → i < length es → e ≡ get_or es i e
    → now ++ relations_of (literals_of_all (trees_of (trees_in (drop i es)))) ≡ all
    → next ≡ now ++ relations_of (literals_in (tree_of e))
    → next ++ relations_of (literals_of_all (trees_of (trees_in (drop (i + 1) es)))) ≡ all
one_gathered es i e before now next all within is so_far more =
    let here = relations_of (literals_in (tree_of e)) in
    let rest = relations_of (literals_of_all (trees_of (trees_in (drop (i + 1) es)))) in
    let split : relations_of (literals_of_all (trees_of (trees_in (drop i es)))) ≡ here ++ rest =
    ap (λ (ts : List Tree). relations_of (literals_of_all (trees_of ts))) (parts_from es i e within is)
    ∙ relations_append (literals_in (tree_of e)) (literals_of_all (trees_of (trees_in (drop (i + 1) es)))) in
    ap (λ (l : List Relation). l ++ rest) more ∙ append_assoc now here rest ∙ ap (λ (l : List Relation). now ++ l) (sym split) ∙ so_far

eq_sym : (a b : ℕ) → (a == b) ≡ (b == a)
eq_sym a b = go (a == b) (b == a) refl refl
  where
    go : (p q : Bool) → (a == b) ≡ p → (b == a) ≡ q → (a == b) ≡ (b == a)
    go true q e f = e ∙ sym (eq-eqb b a (sym (eqb-true a b e)))
    go false true e f = let g : (a == b) ≡ true = eq-eqb a b (sym (eqb-true b a f)) in absurd cc
    go false false e f = e ∙ sym f

name_sym : (v w : List ℕ) → name_eq v w ≡ name_eq w v
name_sym [] [] = refl
name_sym [] (c ∷ cs) = refl
name_sym (b ∷ bs) [] = refl
name_sym (b ∷ bs) (c ∷ cs) = (λ i. eq_sym b c i && name_sym bs cs i)

pub relation_sym : (p q : Relation) → relation_eq p q ≡ relation_eq q p
relation_sym p q = (λ i. name_sym p.word q.word i && eq_sym p.arity q.arity i)

among_append : (p : Relation) (xs ys : List Relation) → is_among p (xs ++ ys) ≡ (is_among p xs || is_among p ys)
among_append p [] ys = refl
among_append p (x ∷ xs) ys = ap (λ (b : Bool). relation_eq p x || b) (among_append p xs ys) ∙ sym (or_assoc (relation_eq p x) (is_among p xs) (is_among p ys))
  where
    or_assoc : (a b c : Bool) → ((a || b) || c) ≡ (a || (b || c))
    or_assoc true b c = refl
    or_assoc false b c = refl

pub asked_among : (p : Relation) (ls : List Literal) → some_of (λ l. relation_eq (relation_of (atom_of l)) p) ls ≡ is_among p (relations_of ls)
asked_among p [] = refl
asked_among p (l ∷ ls) = (λ i. relation_sym (relation_of (atom_of l)) p i || asked_among p ls i)

pub only : (b : Bool) → (b || false) ≡ b
only true = refl
only false = refl

-- a set with one thing more, and what is left
pub one_set : (next now here left rest whole : Bool) → next ≡ (now || here) → left ≡ (here || rest) → (now || left) ≡ whole → (next || rest) ≡ whole
one_set next true here left rest whole e f g = ap (λ (b : Bool). b || rest) e ∙ g
one_set next false here left rest whole e f g = ap (λ (b : Bool). b || rest) e ∙ sym f ∙ g

pub among_first : {R : Type 0} (p : Relation) (view : R → Relation) (rs : List R) (i : ℕ) (r d : R) → i < length rs → r ≡ get_or rs i d
    → is_among p (map view (drop i rs)) ≡ (relation_eq p (view r) || is_among p (map view (drop (i + 1) rs)))
among_first p view [] i r d h is = absurd (omega (arith, h))
among_first p view (s ∷ rs) zero r d h is = ap (λ x. relation_eq p (view x) || is_among p (map view rs)) (sym is)
among_first {R} p view (s ∷ rs) (suc i) r d h is =
    let far : suc (i + 1) ≡ suc i + 1 = omega arith in
    subst (λ (k : ℕ). is_among p (map view (drop (suc i) (s ∷ rs))) ≡ (relation_eq p (view r) || is_among p (map view (drop k (s ∷ rs))))) far
    (among_first p view rs i r d (omega (arith, h)) is)

pub item_first : {A : Type 0} (test : Tree → Bool) (es : List (Expr A)) (i : ℕ) (e : Expr A) → i < length es → e ≡ get_or es i e
    → some_item test (trees_in (drop i es)) ≡ (test (tree_of e) || some_item test (trees_in (drop (i + 1) es)))
item_first test es i e h same = ap (some_item test) (parts_from es i e h same)

pub some_behind : {A : Type 0} (test : Tree → Bool) (es : List (Expr A)) (i : ℕ) → some_item test (trees_in (drop i es)) ≡ true
    → some_item test (trees_in es) ≡ true
some_behind test es zero h = h
some_behind test [] (suc i) h = h
some_behind test (e ∷ es) (suc i) h = go (test (tree_of e)) (some_behind test es i h)
  where
    go : (b : Bool) → some_item test (trees_in es) ≡ true → (b || some_item test (trees_in es)) ≡ true
    go true h' = refl
    go false h' = h'

pub same_names : (xs ys : List ℕ) → pointwise nat_eq xs ys ≡ name_eq xs ys
same_names [] [] = refl
same_names [] (y ∷ ys) = refl
same_names (x ∷ xs) [] = refl
same_names (x ∷ xs) (y ∷ ys) = ap (λ (b : Bool). (x == y) && b) (same_names xs ys)

-- keys of a set of relations
module _ (cmp : memory.Relation → memory.Relation → Ordering) (same : (s t : memory.Relation) → is_eq (cmp s t) ≡ relation_eq (relation_in s) (relation_in t)) where
  pub any_among : (ks : List memory.Relation) (s : memory.Relation) → list_any (λ k. is_eq (cmp s k)) ks ≡ is_among (relation_in s) (map relation_in ks)
  any_among [] s = refl
  any_among (k ∷ ks) s = (λ i. same s k i || any_among ks s i)

  pub inserted : (ks : List memory.Relation) (k : memory.Relation) (p : Relation)
      → is_among p (map relation_in (insert_key cmp ks k)) ≡ (is_among p (map relation_in ks) || relation_eq p (relation_in k))
  inserted [] k p = only (relation_eq p (relation_in k))
  inserted (x ∷ xs) k p = go (cmp k x) refl (inserted xs k p)
    where
      before : (a b c : Bool) → (a || (b || c)) ≡ ((b || c) || a)
      before true true c = refl
      before true false true = refl
      before true false false = refl
      before false true c = refl
      before false false true = refl
      before false false false = refl

      here : (a b c : Bool) → c ≡ a → (a || b) ≡ ((a || b) || c)
      here true b c e = refl
      here false true c e = refl
      here false false c e = sym e

      behind : (a b c d : Bool) → d ≡ (b || c) → (a || d) ≡ ((a || b) || c)
      behind true b c d e = refl
      behind false b c d e = e

      go : (o : Ordering) → cmp k x ≡ o
          → is_among p (map relation_in (insert_key cmp xs k)) ≡ (is_among p (map relation_in xs) || relation_eq p (relation_in k))
          → is_among p (map relation_in (match_ordering o (k ∷ x ∷ xs) (x ∷ xs) (x ∷ insert_key cmp xs k)))
          ≡ (is_among p (map relation_in (x ∷ xs)) || relation_eq p (relation_in k))
      go Less e rest = before (relation_eq p (relation_in k)) (relation_eq p (relation_in x)) (is_among p (map relation_in xs))
      go Equal e rest =
          here (relation_eq p (relation_in x)) (is_among p (map relation_in xs)) (relation_eq p (relation_in k))
          (ap (relation_eq p) (relation_eq_yes (relation_in k) (relation_in x) (sym (same k x) ∙ ap is_eq e)))
      go Greater e rest =
          behind (relation_eq p (relation_in x)) (is_among p (map relation_in xs)) (relation_eq p (relation_in k))
          (is_among p (map relation_in (insert_key cmp xs k))) rest

-- what the order of relations in memory says
pub same_relation : (s t : memory.Relation)
    → is_eq (ordering_then (slice_cmp nat_cmp s.word.now t.word.now) (nat_cmp s.arity t.arity)) ≡ relation_eq (relation_in s) (relation_in t)
same_relation s t =
    sym (tied_then (slice_cmp nat_cmp s.word.now t.word.now) (nat_cmp s.arity t.arity))
    ∙ (λ i. (is_eq-slice_cmp s.word.now t.word.now ∙ same_names s.word.now t.word.now) i && unsigned_tied s.arity t.arity i)
