-- Items that have an alternative, and what they state.
use Rattle.std.proofs.Common.{ℕ, ◌+◌, ◌<◌, get_or, Bool, true, false, cond, ◌&&◌, ◌||◌, ◌≡◌, ◌↔◌, inl, inr, List, [], ◌∷◌, ◌++◌, length, map, drop, refl, sym, ap, ◌∙◌}
use Rattle.std.specs.Bool.{OnTrue}
use Rattle.statement.specs.Tree.{Tree, name, list, Trees, no_trees, tree, trees_of, name_eq}
use Rattle.statement.specs.Words.{w_not, w_or, w_and}
use Rattle.statement.specs.Clause.{Literal, positive, Alternative, Relation, relation_of, relation_eq}
use Rattle.statement.specs.Dependence.{IsAmong}
use Rattle.statement.specs.Items.{readings, readings_in_turn, readings_of_all, behind_each, picks, negated, alternatives, item_alternatives, item_head, body_trees}
use Rattle.kif.specs.View.{tree_of, trees_in}
use Rattle.kif.specs.declared.expr.Expr.{Expr}
use Rattle.kif.proofs.Facts.{parts_from}
use Rattle.rules_profile.specs.Parts.{HasNoWord}
use Rattle.rules_profile.proofs.Facts.{rule_item, same_head, relation_eq_self, relation_eq_yes, or_cases, or_left, or_right}
use Rattle.rules_relations.specs.Asking.{heads_it, some_item}
use Rattle.meaning.specs.Possible.{IsStated}
use Rattle.meaning.specs.Extension.{base_relation, input_relation}
use Rattle.unroll_strata.specs.Ranges.{has_reading, some_has_reading, each_has_reading, states_it}
use Rattle.unroll_strata.proofs.AddedItems.{item_rule, on_true}

-- Lists with a member.

-- the list has some member
abbrev has_some : {X : Type 0} → List X → Bool
has_some [] = false
has_some (x ∷ xs) = true

-- two lists in a row have one where one of them does
some_append : {X : Type 0} (xs ys : List X) → has_some (xs ++ ys) ≡ (has_some xs || has_some ys)
some_append [] ys = refl
some_append (x ∷ xs) ys = refl

-- a list has a member where it has one once each is changed
some_mapped : {X Y : Type 0} (f : X → Y) (xs : List X) → has_some (map f xs) ≡ has_some xs
some_mapped f [] = refl
some_mapped f (x ∷ xs) = refl

-- lists have a member still when all are put behind another
some_behind : (a : List Literal) (bs : List (List Literal)) → has_some (behind_each a bs) ≡ has_some bs
some_behind a [] = refl
some_behind a (b ∷ bs) = refl

-- there is a pick where there is one of the first and one of the second
some_picked : (as' bs : List (List Literal)) → has_some (picks as' bs) ≡ (has_some as' && has_some bs)
some_picked [] bs = refl
some_picked (a ∷ as') bs =
    some_append (behind_each a bs) (picks as' bs) ∙ (λ i. some_behind a bs i || some_picked as' bs i) ∙ absorbs (has_some bs) (has_some as')
  where
    absorbs : (b a : Bool) → (b || (a && b)) ≡ b
    absorbs true a = refl
    absorbs false true = refl
    absorbs false false = refl

-- the first member
member : {X : Type 0} (xs : List X) → has_some xs ≡ true → (x : X) × IsAmong x xs
member [] h = absurd (let bad : ⊥ = cc in bad)
member (x ∷ xs) h = (x, inl refl)

-- the test holds of a list with a member
some_there : {X : Type 0} (xs : List X) (x : X) → IsAmong x xs → has_some xs ≡ true
some_there [] x a = absurd a
some_there (y ∷ xs) x a = refl

-- Trees with a reading.

-- by the word that a list begins with
by_word : (c : List ℕ) (ts : Trees) (o a n : Bool)
    → has_some (readings_in_turn ts) ≡ some_has_reading ts → has_some (readings_of_all ts) ≡ each_has_reading ts
    → has_some (cond o (readings_in_turn ts) (cond a (readings_of_all ts)
    (cond n ((negated ts ∷ []) ∷ []) ((positive (record { word = c; terms = ts }) ∷ []) ∷ []))))
    ≡ cond o (some_has_reading ts) (cond a (each_has_reading ts) true)
by_word c ts true a n turn all = turn
by_word c ts false true n turn all = all
by_word c ts false false true turn all = refl
by_word c ts false false false turn all = refl

-- the test says whether there is a reading
mutual
  reads : (t : Tree) → has_some (readings t) ≡ has_reading t
  reads (name c) = refl
  reads (list no_trees) = refl
  reads (list (tree (list us) ts)) = refl
  reads (list (tree (name c) ts)) = by_word c ts (name_eq c w_or) (name_eq c w_and) (name_eq c w_not) (reads_some ts) (reads_each ts)

  reads_some : (ts : Trees) → has_some (readings_in_turn ts) ≡ some_has_reading ts
  reads_some no_trees = refl
  reads_some (tree t ts) = some_append (readings t) (readings_in_turn ts) ∙ (λ i. reads t i || reads_some ts i)

  reads_each : (ts : Trees) → has_some (readings_of_all ts) ≡ each_has_reading ts
  reads_each no_trees = refl
  reads_each (tree t ts) = some_picked (readings t) (readings_of_all ts) ∙ (λ i. reads t i && reads_each ts i)

-- a tree has a reading exactly where the test holds
pub has_a_reading : (t : Tree) → (has_reading t ≡ true) ↔ ((b : List Literal) × IsAmong b (readings t))
has_a_reading t = (λ h. member (readings t) (reads t ∙ h), λ m. sym (reads t) ∙ some_there (readings t) m.0 m.1)

-- Items with an alternative.

-- an item has one where its body has a reading
some_alternative : (t : Tree) → has_some (item_alternatives t) ≡ each_has_reading (body_trees t)
some_alternative t =
    some_mapped (λ (b : List Literal). let r : Alternative = record { head = item_head t; body = b } in r) (readings_of_all (body_trees t))
    ∙ reads_each (body_trees t)

-- both tests, where they hold together
both_of : (a b : Bool) → (a && b) ≡ true → (a ≡ true) × (b ≡ true)
both_of true b h = (refl, h)
both_of false b h = absurd (let bad : ⊥ = cc in bad)

-- an item of which a test holds
item_found : (test : Tree → Bool) (ts : List Tree) → some_item test ts ≡ true → (t : Tree) × IsAmong t ts × (test t ≡ true)
item_found test [] h = absurd (let bad : ⊥ = cc in bad)
item_found test (t ∷ ts) h = elim (or_cases (test t) (some_item test ts) h) [
  | inl e ↦ (t, inl refl, e)
  | inr k ↦ let rest = item_found test ts k in (rest.0, inr rest.1, rest.2)
]

-- a test that holds of an item holds of some item
item_counts : (test : Tree → Bool) (ts : List Tree) (t : Tree) → IsAmong t ts → test t ≡ true → some_item test ts ≡ true
item_counts test [] t a h = absurd a
item_counts test (u ∷ ts) t (inl e) h = or_left (test u) (some_item test ts) (ap test (sym e) ∙ h)
item_counts test (u ∷ ts) t (inr a) h = or_right (test u) (some_item test ts) (item_counts test ts t a h)

-- an item that states a relation gives a rule of it
stated_by : (p : Relation) (ts : List Tree) → some_item (states_it p) ts ≡ true → IsStated (alternatives ts) p
stated_by p ts h =
    let found = item_found (states_it p) ts h in
    let t = found.0 in
    let is = both_of (heads_it p t) (each_has_reading (body_trees t)) found.2 in
    let rule = member (item_alternatives t) (some_alternative t ∙ is.1) in (
      rule.0,
      item_rule ts t rule.0 found.1 rule.1,
      ap relation_of (same_head (item_head t) _ rule.0 rule.1) ∙ relation_eq_yes (relation_of (item_head t)) p is.0,
    )

-- and a rule of it comes from such an item
states : (p : Relation) (ts : List Tree) → IsStated (alternatives ts) p → some_item (states_it p) ts ≡ true
states p ts s =
    let i = rule_item ts s.0 s.1 in
    let t = i.0 in
    let heads : heads_it p t ≡ true =
    ap (λ (q : Relation). relation_eq q p) (ap relation_of (sym (same_head (item_head t) _ s.0 i.2)) ∙ s.2) ∙ relation_eq_self p in
    let reading : each_has_reading (body_trees t) ≡ true = sym (some_alternative t) ∙ some_there (item_alternatives t) s.0 i.2 in
    item_counts (states_it p) ts t i.1 (λ j. heads j && reading j)

-- where the test fails, there is no rule of it
pub unstated : (p : Relation) (b : Bool) (ts : List Tree) → b ≡ some_item (states_it p) ts → b ≡ false → IsStated (alternatives ts) p → ⊥
unstated p b ts e none s =
    let h : true ≡ false = sym (states p ts s) ∙ sym e ∙ none in
    let bad : ⊥ = cc in
    bad

-- both relations are stated where both tests hold
pub ranges_stated : (b : Bool) (ts : List Tree) → some_item (states_it base_relation) ts ≡ true → b ≡ some_item (states_it input_relation) ts
    → OnTrue b (IsStated (alternatives ts) base_relation × IsStated (alternatives ts) input_relation)
ranges_stated b ts base input = on_true b _ (λ is. (stated_by base_relation ts base, stated_by input_relation ts (sym input ∙ is)))

-- Trees in memory.

-- a list that begins with no name has no reading
pub no_word : (ts : List Tree) → HasNoWord ts → has_reading (list (trees_of ts)) ≡ false
no_word [] h = refl
no_word (name w ∷ ts) h = absurd (h w ts refl)
no_word (list us ∷ ts) h = refl

module _ {A : Type 0} (es : List (Expr A)) (i : ℕ) (e : Expr A) (inside : i < length es) (is : e ≡ get_or es i e) where
  -- the part at a place, and those behind it
  from : trees_in (drop i es) ≡ tree_of e ∷ trees_in (drop (i + 1) es)
  from = parts_from es i e inside is

  -- a part with a reading, and one without, among parts of which one is to have one
  pub one_read : has_reading (tree_of e) ≡ true → some_has_reading (trees_of (trees_in (drop i es))) ≡ true
  one_read h =
      ap (λ (ts : List Tree). some_has_reading (trees_of ts)) from ∙ ap (λ (b : Bool). b || some_has_reading (trees_of (trees_in (drop (i + 1) es)))) h

  pub one_passed : has_reading (tree_of e) ≡ false
      → some_has_reading (trees_of (trees_in (drop i es))) ≡ some_has_reading (trees_of (trees_in (drop (i + 1) es)))
  one_passed h =
      ap (λ (ts : List Tree). some_has_reading (trees_of ts)) from ∙ ap (λ (b : Bool). b || some_has_reading (trees_of (trees_in (drop (i + 1) es)))) h

  -- the same among parts of which each is to have one
  pub each_read : has_reading (tree_of e) ≡ true
      → each_has_reading (trees_of (trees_in (drop i es))) ≡ each_has_reading (trees_of (trees_in (drop (i + 1) es)))
  each_read h =
      ap (λ (ts : List Tree). each_has_reading (trees_of ts)) from ∙ ap (λ (b : Bool). b && each_has_reading (trees_of (trees_in (drop (i + 1) es)))) h

  pub one_missed : has_reading (tree_of e) ≡ false → each_has_reading (trees_of (trees_in (drop i es))) ≡ false
  one_missed h =
      ap (λ (ts : List Tree). each_has_reading (trees_of ts)) from ∙ ap (λ (b : Bool). b && each_has_reading (trees_of (trees_in (drop (i + 1) es)))) h
