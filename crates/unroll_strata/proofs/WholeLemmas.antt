-- The alternatives of an item in the form of the profile are those of the item in the whole language.
use Rattle.std.proofs.Common.{ℕ, Bool, true, false, cond, ◌≡◌, List, [], ◌∷◌, ◌++◌, map, refl, sym, ap, subst, ◌∙◌}
use Rattle.std.specs.Prelude.{not, ◌&&◌}
use Rattle.std.proofs.lemmas.List.{append-nil}
use Rattle.statement.specs.Tree.{Tree, name, list, Trees, no_trees, tree, name_eq}
use Rattle.statement.specs.Words.{w_if, w_not, w_or, w_and}
use Rattle.statement.specs.Clause.{Literal, positive, Alternative}
use Rattle.statement.specs.Items.{is_some, head_tree, body_trees, item_head, picks, readings, list_readings, readings_of_all, readings_in_turn, item_alternatives, is_atom}
use Rattle.kif.proofs.Facts.{both, name_eq_yes}
use Rattle.rules_profile.specs.Connectives.{IsNoConnective}
use Rattle.meaning.specs.Literals.{is_whole_literal, is_whole_list, is_one_whole, are_whole_literals, is_whole_item, ways, list_ways, ways_in_turn, ways_of_all, whole_item_alternatives}
use Rattle.unroll_strata.specs.Plain.{plain_literal, plain_list, plain_not, plain_literals, plain_item, role_literal, behind}
use Rattle.unroll_strata.proofs.PlainLemmas.{behind_none, plain_word}

or_ways : (wrong : Bool) (ts : Trees) → is_whole_list (tree (name w_or) ts) ≡ true
    → (are_whole_literals ts ≡ true → readings_of_all (plain_literals wrong ts) ≡ ways_of_all (not wrong) ts)
    → (are_whole_literals ts ≡ true → readings_in_turn (plain_literals wrong ts) ≡ ways_in_turn (not wrong) ts)
    → readings (plain_list wrong (tree (name w_or) ts)) ≡ list_ways (not wrong) (tree (name w_or) ts)
or_ways true ts h all turn = all (both (is_some ts) (are_whole_literals ts) h).1
or_ways false ts h all turn = turn (both (is_some ts) (are_whole_literals ts) h).1

and_ways : (wrong : Bool) (ts : Trees) → is_whole_list (tree (name w_and) ts) ≡ true
    → (are_whole_literals ts ≡ true → readings_of_all (plain_literals wrong ts) ≡ ways_of_all (not wrong) ts)
    → (are_whole_literals ts ≡ true → readings_in_turn (plain_literals wrong ts) ≡ ways_in_turn (not wrong) ts)
    → readings (plain_list wrong (tree (name w_and) ts)) ≡ list_ways (not wrong) (tree (name w_and) ts)
and_ways true ts h all turn = turn (both (is_some ts) (are_whole_literals ts) h).1
and_ways false ts h all turn = all (both (is_some ts) (are_whole_literals ts) h).1

plain_readings : (c : List ℕ) (ts : Trees) → IsNoConnective c → list_readings (tree (name c) ts) ≡ (positive (record { word = c; terms = ts }) ∷ []) ∷ []
plain_readings c ts n = rw (n.no_or, n.no_and, n.no_not) refl

plain_ways : (c : List ℕ) (ts : Trees) → IsNoConnective c → list_ways true (tree (name c) ts) ≡ (positive (record { word = c; terms = ts }) ∷ []) ∷ []
plain_ways c ts n = rw (n.no_or, n.no_and, n.no_not) refl

atom_ways : (wrong : Bool) (c : List ℕ) (ts : Trees) → IsNoConnective c
    → readings (plain_list wrong (tree (name c) ts)) ≡ list_ways (not wrong) (tree (name c) ts)
atom_ways true c ts n = rw (n.no_or, n.no_and, n.no_not) refl
atom_ways false c ts n = ap readings (plain_word false c ts n) ∙ plain_readings c ts n ∙ sym (plain_ways c ts n)

by_word : (wrong : Bool) (c : List ℕ) (ts : Trees) (o a n : Bool) → name_eq c w_or ≡ o → name_eq c w_and ≡ a → name_eq c w_not ≡ n
    → is_whole_list (tree (name c) ts) ≡ true
    → (are_whole_literals ts ≡ true → readings_of_all (plain_literals wrong ts) ≡ ways_of_all (not wrong) ts)
    → (are_whole_literals ts ≡ true → readings_in_turn (plain_literals wrong ts) ≡ ways_in_turn (not wrong) ts)
    → (is_one_whole ts ≡ true → readings (plain_not wrong ts) ≡ cond (not wrong) (ways_in_turn false ts) (ways_in_turn true ts))
    → readings (plain_list wrong (tree (name c) ts)) ≡ list_ways (not wrong) (tree (name c) ts)
by_word wrong c ts true a n e f g h all turn one =
    subst (λ (w : List ℕ). is_whole_list (tree (name w) ts) ≡ true → readings (plain_list wrong (tree (name w) ts)) ≡ list_ways (not wrong) (tree (name w) ts))
    (sym (name_eq_yes c w_or e)) (λ k. or_ways wrong ts k all turn) h
by_word wrong c ts false true n e f g h all turn one =
    subst (λ (w : List ℕ). is_whole_list (tree (name w) ts) ≡ true → readings (plain_list wrong (tree (name w) ts)) ≡ list_ways (not wrong) (tree (name w) ts))
    (sym (name_eq_yes c w_and f)) (λ k. and_ways wrong ts k all turn) h
by_word wrong c ts false false true e f g h all turn one =
    subst (λ (w : List ℕ). is_whole_list (tree (name w) ts) ≡ true → readings (plain_list wrong (tree (name w) ts)) ≡ list_ways (not wrong) (tree (name w) ts))
    (sym (name_eq_yes c w_not g)) one h
by_word wrong c ts false false false e f g h all turn one = atom_ways wrong c ts (record { no_or = e; no_and = f; no_not = g })

mutual
  pub literal_ways : (wrong : Bool) (t : Tree) → is_whole_literal t ≡ true → readings (plain_literal wrong t) ≡ ways (not wrong) t
  literal_ways true (name c) h = refl
  literal_ways false (name c) h = refl
  literal_ways wrong (list ts) h = whole_list_ways wrong ts h

  whole_list_ways : (wrong : Bool) (ts : Trees) → is_whole_list ts ≡ true → readings (plain_list wrong ts) ≡ list_ways (not wrong) ts
  whole_list_ways wrong no_trees h = absurd (let bad : ⊥ = cc in bad)
  whole_list_ways wrong (tree (list us) ts) h = absurd (let bad : ⊥ = cc in bad)
  whole_list_ways wrong (tree (name c) ts) h =
      by_word wrong c ts (name_eq c w_or) (name_eq c w_and) (name_eq c w_not) refl refl refl h (λ k. all_ways wrong ts k) (λ k. turn_ways wrong ts k)
      (λ k. not_ways wrong ts k)

  pub all_ways : (wrong : Bool) (ts : Trees) → are_whole_literals ts ≡ true → readings_of_all (plain_literals wrong ts) ≡ ways_of_all (not wrong) ts
  all_ways wrong no_trees h = refl
  all_ways wrong (tree t ts) h =
      let k = both (is_whole_literal t) (are_whole_literals ts) h in (λ i. picks (literal_ways wrong t k.0 i) (all_ways wrong ts k.1 i))

  turn_ways : (wrong : Bool) (ts : Trees) → are_whole_literals ts ≡ true → readings_in_turn (plain_literals wrong ts) ≡ ways_in_turn (not wrong) ts
  turn_ways wrong no_trees h = refl
  turn_ways wrong (tree t ts) h =
      let k = both (is_whole_literal t) (are_whole_literals ts) h in (λ i. literal_ways wrong t k.0 i ++ turn_ways wrong ts k.1 i)

  not_ways : (wrong : Bool) (ts : Trees) → is_one_whole ts ≡ true
      → readings (plain_not wrong ts) ≡ cond (not wrong) (ways_in_turn false ts) (ways_in_turn true ts)
  not_ways wrong no_trees h = absurd (let bad : ⊥ = cc in bad)
  not_ways true (tree t no_trees) h = literal_ways false t h ∙ sym (append-nil (ways true t))
  not_ways false (tree t no_trees) h = literal_ways true t h ∙ sym (append-nil (ways false t))
  not_ways wrong (tree t (tree u us)) h = absurd (let bad : ⊥ = cc in bad)

-- Items.

pub item_ways : (t : Tree) → is_whole_item t ≡ true → role_literal t ≡ no_trees → item_alternatives (plain_item t) ≡ whole_item_alternatives t
item_ways t h none = go (body_trees t) refl
  where
    bodies : List (List Literal) → List Alternative
    bodies bs = map (λ b. let a : Alternative = record { head = item_head t; body = b } in a) bs

    whole : are_whole_literals (body_trees t) ≡ true
    whole = (both (is_atom (head_tree t)) (are_whole_literals (body_trees t)) h).1

    rule : Tree
    rule = list (tree (name w_if) (tree (head_tree t) (behind (plain_literals false (body_trees t)) (role_literal t))))

    kept : bodies (readings_of_all (behind (plain_literals false (body_trees t)) (role_literal t))) ≡ whole_item_alternatives t
    kept = ap (λ (us : Trees). bodies (readings_of_all (behind (plain_literals false (body_trees t)) us))) none
        ∙ ap (λ (us : Trees). bodies (readings_of_all us)) (sym (behind_none (plain_literals false (body_trees t))))
        ∙ ap bodies (all_ways false (body_trees t) whole)

    go : (ts : Trees) → body_trees t ≡ ts → item_alternatives (plain_item t) ≡ whole_item_alternatives t
    go no_trees e =
        ap (λ (b : Bool). item_alternatives (cond b rule t)) (ap is_some e) ∙ ap (λ (us : Trees). bodies (readings_of_all us)) e
        ∙ sym (ap (λ (us : Trees). bodies (ways_of_all true us)) e)
    go (tree u us) e = ap (λ (b : Bool). item_alternatives (cond b rule t)) (ap is_some e) ∙ kept
