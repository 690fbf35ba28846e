-- Relations in memory, as keys of a set.
use Rattle.std.proofs.Common.{ℕ, zero, suc, Bool, true, false, ◌≡◌, ◌<◌, ◌+◌, List, [], ◌∷◌, ◌++◌, map, drop, length, get_or, refl, sym, ap, ◌∙◌, arith, Option, Some, None}
use Rattle.std.specs.Prelude.{◌&&◌, ◌||◌, ◌==◌, cond, nat_eq, if◌then◌else◌, position, nat_lt, not, unwrap_or}
use lib.Pointwise.{pointwise}
use Rattle.std.specs.List.{list_any, position_or_len}
use Rattle.std.proofs.lemmas.List.{map-append}
use Rattle.std.proofs.lemmas.Bool.{eqb-true, eq-eqb}
use Rattle.statement.specs.Tree.{Tree, name_eq}
use Rattle.statement.specs.Clause.{Relation, relation_eq}
use Rattle.statement.specs.Dependence.{is_among}
use Rattle.kif.specs.View.{tree_of, trees_in}
use Rattle.kif.specs.declared.expr.Expr.{Expr}
use Rattle.kif.proofs.Facts.{parts_from}
use Rattle.rules_profile.proofs.Facts.{relation_eq_yes}
use Rattle.rules_relations.specs.declared.relation.Relation as memory
use Rattle.rules_relations.specs.Relations.{relation_in}
use Rattle.rules_relations.specs.Asking.{some_item}
use Rattle.unroll_strata.specs.Numbering.{number_in}

eq_sym : (a b : ℕ) → (a == b) ≡ (b == a)
eq_sym a b = go (a == b) (b == a) refl refl
  where
    go : (p q : Bool) → (a == b) ≡ p → (b == a) ≡ q → (a == b) ≡ (b == a)
    go true q e f = e ∙ sym (eq-eqb b a (sym (eqb-true a b e)))
    go false true e f = let g : (a == b) ≡ true = eq-eqb a b (sym (eqb-true b a f)) in absurd cc
    go false false e f = e ∙ sym f

name_sym : (v w : List ℕ) → name_eq v w ≡ name_eq w v
name_sym [] [] = refl
name_sym [] (c ∷ cs) = refl
name_sym (b ∷ bs) [] = refl
name_sym (b ∷ bs) (c ∷ cs) = (λ i. eq_sym b c i && name_sym bs cs i)

pub relation_sym : (p q : Relation) → relation_eq p q ≡ relation_eq q p
relation_sym p q = (λ i. name_sym p.word q.word i && eq_sym p.arity q.arity i)

among_append : (p : Relation) (xs ys : List Relation) → is_among p (xs ++ ys) ≡ (is_among p xs || is_among p ys)
among_append p [] ys = refl
among_append p (x ∷ xs) ys = ap (λ (b : Bool). relation_eq p x || b) (among_append p xs ys) ∙ sym (or_assoc (relation_eq p x) (is_among p xs) (is_among p ys))
  where
    or_assoc : (a b c : Bool) → ((a || b) || c) ≡ (a || (b || c))
    or_assoc true b c = refl
    or_assoc false b c = refl

pub only : (b : Bool) → (b || false) ≡ b
only true = refl
only false = refl

-- a set with one thing more, and what is left
pub one_set : (next now here left rest whole : Bool) → next ≡ (now || here) → left ≡ (here || rest) → (now || left) ≡ whole → (next || rest) ≡ whole
one_set next true here left rest whole e f g = ap (λ (b : Bool). b || rest) e ∙ g
one_set next false here left rest whole e f g = ap (λ (b : Bool). b || rest) e ∙ sym f ∙ g

pub item_first : {A : Type 0} (test : Tree → Bool) (es : List (Expr A)) (i : ℕ) (e : Expr A) → i < length es → e ≡ get_or es i e
    → some_item test (trees_in (drop i es)) ≡ (test (tree_of e) || some_item test (trees_in (drop (i + 1) es)))
item_first test es i e h same = ap (some_item test) (parts_from es i e h same)

pub same_names : (xs ys : List ℕ) → pointwise nat_eq xs ys ≡ name_eq xs ys
same_names [] [] = refl
same_names [] (y ∷ ys) = refl
same_names (x ∷ xs) [] = refl
same_names (x ∷ xs) (y ∷ ys) = ap (λ (b : Bool). (x == y) && b) (same_names xs ys)

pub any_among : (eq : memory.Relation → memory.Relation → Bool) → ((s t : memory.Relation) → eq s t ≡ relation_eq (relation_in s) (relation_in t))
    → (ks : List memory.Relation) (s : memory.Relation) → list_any (eq s) ks ≡ is_among (relation_in s) (map relation_in ks)
any_among eq same [] s = refl
any_among eq same (k ∷ ks) s = (λ i. same s k i || any_among eq same ks s i)

pub inserted : (eq : memory.Relation → memory.Relation → Bool) → ((s t : memory.Relation) → eq s t ≡ relation_eq (relation_in s) (relation_in t))
    → (ks : List memory.Relation) (k : memory.Relation) (p : Relation)
    → is_among p (map relation_in (if list_any (eq k) ks then ks else (ks ++ k ∷ [])))
    ≡ (is_among p (map relation_in ks) || relation_eq p (relation_in k))
inserted eq same ks k p = go (list_any (eq k) ks) refl
  where
    already : (t : Bool) → relation_eq p (relation_in k) ≡ t → list_any (eq k) ks ≡ true
        → is_among p (map relation_in ks) ≡ (is_among p (map relation_in ks) || relation_eq p (relation_in k))
    already true e found =
        let here : is_among p (map relation_in ks) ≡ true =
        ap (λ (q : Relation). is_among q (map relation_in ks)) (relation_eq_yes p (relation_in k) e) ∙ sym (any_among eq same ks k) ∙ found in
        rw here refl
    already false e found = sym (ap (λ (b : Bool). is_among p (map relation_in ks) || b) e ∙ only (is_among p (map relation_in ks)))

    go : (b : Bool) → list_any (eq k) ks ≡ b
        → is_among p (map relation_in (if b then ks else (ks ++ k ∷ []))) ≡ (is_among p (map relation_in ks) || relation_eq p (relation_in k))
    go true e = already (relation_eq p (relation_in k)) refl e
    go false e =
        ap (is_among p) (map-append relation_in ks (k ∷ [])) ∙ among_append p (map relation_in ks) (relation_in k ∷ [])
        ∙ ap (λ (b : Bool). is_among p (map relation_in ks) || b) (only (relation_eq p (relation_in k)))

-- what `==` says of relations in memory
pub same_relation : (s t : memory.Relation) → (pointwise nat_eq s.word.now t.word.now && nat_eq s.arity t.arity) ≡ relation_eq (relation_in s) (relation_in t)
same_relation s t = ap (λ (b : Bool). b && (s.arity == t.arity)) (same_names s.word.now t.word.now)

-- the place among keys
module _ (eq : memory.Relation → memory.Relation → Bool) (same : (s t : memory.Relation) → eq s t ≡ relation_eq (relation_in s) (relation_in t)) where
  place_is : (ks : List memory.Relation) (s : memory.Relation) → position_or_len (eq s) ks ≡ number_in (map relation_in ks) (relation_in s)
  place_is [] s = refl
  place_is (k ∷ ks) s =
      ap (λ (b : Bool). cond (not b) (1 + position_or_len (eq s) ks) zero) (same s k) ∙ go (relation_eq (relation_in s) (relation_in k)) (place_is ks s)
    where
      go : (b : Bool) → position_or_len (eq s) ks ≡ number_in (map relation_in ks) (relation_in s)
          → cond (not b) (1 + position_or_len (eq s) ks) zero ≡ cond b zero (suc (number_in (map relation_in ks) (relation_in s)))
      go true h = refl
      go false h = omega (arith, h)

  pub found_place : (ks : List memory.Relation) (s : memory.Relation) (i : ℕ) → position (eq s) ks ≡ Some i → i ≡ number_in (map relation_in ks) (relation_in s)
  found_place ks s i e = go (nat_lt (position_or_len (eq s) ks) (length ks)) e
    where
      go : (b : Bool) → cond b (Some (position_or_len (eq s) ks)) None ≡ Some i → i ≡ number_in (map relation_in ks) (relation_in s)
      go true f = sym (ap (λ (o : Option ℕ). unwrap_or o 0) f) ∙ place_is ks s
      go false f = absurd (let bad : ⊥ = cc in bad)

  pub no_place : (ks : List memory.Relation) (s : memory.Relation) → list_any (eq s) ks ≡ false → length ks ≡ number_in (map relation_in ks) (relation_in s)
  no_place [] s e = refl
  no_place (k ∷ ks) s e = go (relation_eq (relation_in s) (relation_in k)) (ap (λ (b : Bool). b || list_any (eq s) ks) (sym (same s k)) ∙ e) (λ f. no_place ks s f)
    where
      go : (b : Bool) → (b || list_any (eq s) ks) ≡ false
          → (list_any (eq s) ks ≡ false → length ks ≡ number_in (map relation_in ks) (relation_in s)) → suc (length ks) ≡ cond b zero (suc (number_in (map relation_in ks) (relation_in s)))
      go true f next = absurd (let bad : ⊥ = cc in bad)
      go false f next = ap suc (next f)
