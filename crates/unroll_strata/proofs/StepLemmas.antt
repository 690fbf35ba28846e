-- The alternatives of an item as a step are those of the item, each as a step.
use Rattle.std.proofs.Common.{ℕ, Bool, true, false, cond, ◌||◌, ◌≡◌, List, [], ◌∷◌, ◌++◌, map, refl, sym, ap, subst, ◌∙◌}
use Rattle.std.proofs.lemmas.List.{map-append}
use Rattle.statement.specs.Tree.{Tree, name, list, Trees, no_trees, tree, name_eq}
use Rattle.statement.specs.Words.{w_if, w_not, w_or, w_and, w_true, w_next, w_base}
use Rattle.statement.specs.Clause.{Atom, Literal, positive, Alternative, Relation, relation_of, tree_of}
use Rattle.statement.specs.Dependence.{is_among}
use Rattle.statement.specs.Items.{atom_in, item_head, body_trees, behind_each, picks, negated, readings, list_readings, readings_in_turn, readings_of_all, item_alternatives}
use Rattle.statement.specs.Meaning.{atom1}
use Rattle.kif.proofs.Facts.{name_eq_yes}
use Rattle.rules_profile.specs.Connectives.{IsNoConnective}
use Rattle.unroll_strata.specs.Steps.{stepped_literal, stepped, pair, step_atom, step_literal, step_list, step_literals, step_item, based, based_item}

-- each literal of each list as a step
abbrev changed : List Relation → List (List Literal) → List (List Literal)
changed own bs = map (map (stepped_literal own)) bs

behind_changed : (own : List Relation) (a : List Literal) (bs : List (List Literal))
    → behind_each (map (stepped_literal own) a) (changed own bs) ≡ changed own (behind_each a bs)
behind_changed own a [] = refl
behind_changed own a (b ∷ bs) = λ i. sym (map-append (stepped_literal own) a b) i ∷ behind_changed own a bs i

picks_changed : (own : List Relation) (as' bs : List (List Literal)) → picks (changed own as') (changed own bs) ≡ changed own (picks as' bs)
picks_changed own [] bs = refl
picks_changed own (a ∷ as') bs =
    (λ i. behind_changed own a bs i ++ picks_changed own as' bs i) ∙ sym (map-append (map (stepped_literal own)) (behind_each a bs) (picks as' bs))

-- a tree that is read as one atom
atom_readings : (own : List Relation) (t : Tree) → readings t ≡ (positive (atom_in t) ∷ []) ∷ []
    → readings (step_atom own t) ≡ (stepped_literal own (positive (atom_in t)) ∷ []) ∷ []
atom_readings own t h = go (is_among (relation_of (atom_in t)) own)
  where
    go : (b : Bool) → readings (cond b (pair w_true (tree_of (atom_in t))) t)
        ≡ (positive (cond b (atom1 w_true (tree_of (atom_in t))) (atom_in t)) ∷ []) ∷ []
    go true = refl
    go false = h

plain_readings : (c : List ℕ) (ts : Trees) → IsNoConnective c → list_readings (tree (name c) ts) ≡ (positive (record { word = c; terms = ts }) ∷ []) ∷ []
plain_readings c ts n = rw (n.no_or, n.no_and, n.no_not) refl

pub step_plain : (own : List Relation) (c : List ℕ) (ts : Trees) → IsNoConnective c
    → step_list own (tree (name c) ts) ≡ step_atom own (list (tree (name c) ts))
step_plain own c ts n = rw (n.no_or, n.no_and, n.no_not) refl

-- what is to be shown of a list that begins with a word
abbrev Says : List Relation → Trees → List ℕ → Type 0
Says own ts w = readings (step_list own (tree (name w) ts)) ≡ changed own (list_readings (tree (name w) ts))

negated_stays : (own : List Relation) (ts : Trees) → (negated ts ∷ []) ∷ [] ≡ changed own ((negated ts ∷ []) ∷ [])
negated_stays own no_trees = refl
negated_stays own (tree t ts) = refl

by_word : (own : List Relation) (c : List ℕ) (ts : Trees) (o a n : Bool) → name_eq c w_or ≡ o → name_eq c w_and ≡ a → name_eq c w_not ≡ n
    → readings_of_all (step_literals own ts) ≡ changed own (readings_of_all ts)
    → readings_in_turn (step_literals own ts) ≡ changed own (readings_in_turn ts) → Says own ts c
by_word own c ts true a n e f g all turn = subst (Says own ts) (sym (name_eq_yes c w_or e)) turn
by_word own c ts false true n e f g all turn = subst (Says own ts) (sym (name_eq_yes c w_and f)) all
by_word own c ts false false true e f g all turn = subst (Says own ts) (sym (name_eq_yes c w_not g)) (negated_stays own ts)
by_word own c ts false false false e f g all turn =
    let n : IsNoConnective c = record { no_or = e; no_and = f; no_not = g } in
    ap readings (step_plain own c ts n) ∙ atom_readings own (list (tree (name c) ts)) (plain_readings c ts n)
    ∙ sym (ap (changed own) (plain_readings c ts n))

mutual
  step_readings : (own : List Relation) (t : Tree) → readings (step_literal own t) ≡ changed own (readings t)
  step_readings own (name c) = atom_readings own (name c) refl
  step_readings own (list no_trees) = refl
  step_readings own (list (tree (list us) ts)) = refl
  step_readings own (list (tree (name c) ts)) =
      by_word own c ts (name_eq c w_or) (name_eq c w_and) (name_eq c w_not) refl refl refl (step_all own ts) (step_turn own ts)

  step_turn : (own : List Relation) (ts : Trees) → readings_in_turn (step_literals own ts) ≡ changed own (readings_in_turn ts)
  step_turn own no_trees = refl
  step_turn own (tree t ts) =
      (λ i. step_readings own t i ++ step_turn own ts i) ∙ sym (map-append (map (stepped_literal own)) (readings t) (readings_in_turn ts))

  step_all : (own : List Relation) (ts : Trees) → readings_of_all (step_literals own ts) ≡ changed own (readings_of_all ts)
  step_all own no_trees = refl
  step_all own (tree t ts) =
      (λ i. picks (step_readings own t i) (step_all own ts i)) ∙ picks_changed own (readings t) (readings_of_all ts)

abbrev rules_of : Atom → List (List Literal) → List Alternative
rules_of h bs = map (λ b. let r : Alternative = record { head = h; body = b } in r) bs

rules_changed : (own : List Relation) (h : Atom) (bs : List (List Literal))
    → rules_of (atom1 w_next (tree_of h)) (changed own bs) ≡ map (stepped own) (rules_of h bs)
rules_changed own h [] = refl
rules_changed own h (b ∷ bs) = ap (λ (rs : List Alternative). stepped own (record { head = h; body = b }) ∷ rs) (rules_changed own h bs)

pub step_alternatives : (own : List Relation) (t : Tree) → item_alternatives (step_item own t) ≡ map (stepped own) (item_alternatives t)
step_alternatives own t =
    ap (rules_of (atom1 w_next (tree_of (item_head t)))) (step_all own (body_trees t)) ∙ rules_changed own (item_head t) (readings_of_all (body_trees t))

-- What can be in a state.

based_rules : (h : Atom) (bs : List (List Literal)) → rules_of (atom1 w_base (tree_of h)) bs ≡ map based (rules_of h bs)
based_rules h [] = refl
based_rules h (b ∷ bs) = ap (λ (rs : List Alternative). based (record { head = h; body = b }) ∷ rs) (based_rules h bs)

pub based_alternatives : (t : Tree) → item_alternatives (based_item t) ≡ map based (item_alternatives t)
based_alternatives t = based_rules (item_head t) (readings_of_all (body_trees t))
