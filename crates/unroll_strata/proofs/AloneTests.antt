-- What the tests of own relations and of items say of rules.
use Rattle.std.proofs.Common.{Bool, true, false, not, ◌&&◌, ◌||◌, ◌≡◌, inl, inr, List, [], ◌∷◌, refl, sym, ap, ◌∙◌}
use Rattle.std.specs.Bool.{OnTrue}
use Rattle.std.specs.List.{list_any}
use Rattle.statement.specs.Tree.{Tree}
use Rattle.statement.specs.Clause.{Literal, Alternative, Relation, relation_of, relation_eq, atom_of, is_variable}
use Rattle.statement.specs.Dependence.{IsAmong, is_among, is_distinct, is_moving}
use Rattle.statement.specs.Items.{alternatives, body_trees}
use Rattle.rules_profile.specs.Standing.{literals_of_all}
use Rattle.rules_profile.proofs.Facts.{rule_item, relation_eq_yes}
use Rattle.meaning.proofs.Facts.{among_map_in}
use Rattle.rules_relations.specs.Asking.{some_item, asked_relations}
use Rattle.unroll_strata.proofs.Readings.{stands_in_item}
use Rattle.meaning.specs.Extension.{base_relation}
use Rattle.unroll_strata.specs.Steps.{heads_one}
use Rattle.unroll_strata.specs.Founded.{next_relation, StandAlone}
use Rattle.unroll_strata.specs.Alone.{is_stray, strays, is_unfit, says_states}
use Rattle.unroll_strata.proofs.MadeGames.{rule_head}

-- Tests.

left_false : (a b : Bool) → (a || b) ≡ false → a ≡ false
left_false true b h = absurd (let bad : ⊥ = cc in bad)
left_false false b h = refl

right_false : (a b : Bool) → (a || b) ≡ false → b ≡ false
right_false true b h = absurd (let bad : ⊥ = cc in bad)
right_false false b h = h

second_false : (a b : Bool) → a ≡ true → (a && b) ≡ false → b ≡ false
second_false true b e h = h
second_false false b e h = absurd (let bad : ⊥ = cc in bad)

was_true : (a : Bool) → not a ≡ false → a ≡ true
was_true true h = refl
was_true false h = absurd (let bad : ⊥ = cc in bad)

is_asked : (d a : Bool) → d ≡ false → (not d && not a) ≡ false → a ≡ true
is_asked true a e h = absurd (let bad : ⊥ = cc in bad)
is_asked false a e h = was_true a h

pub on_not : (b : Bool) (P : Type 0) → (b ≡ false → P) → OnTrue (not b) P
on_not true P h = tt
on_not false P h = h refl

-- Lists.

no_item : (test : Tree → Bool) (ts : List Tree) (t : Tree) → some_item test ts ≡ false → IsAmong t ts → test t ≡ false
no_item test [] t h a = absurd a
no_item test (u ∷ ts) t h (inl e) = ap test e ∙ left_false (test u) (some_item test ts) h
no_item test (u ∷ ts) t h (inr a) = no_item test ts t (right_false (test u) (some_item test ts) h) a

none_of : (test : Relation → Bool) (ps : List Relation) (p : Relation) → list_any test ps ≡ false → IsAmong p ps → test p ≡ false
none_of test [] p h a = absurd a
none_of test (q ∷ ps) p h (inl e) = ap test e ∙ left_false (test q) (list_any test ps) h
none_of test (q ∷ ps) p h (inr a) = none_of test ps p (right_false (test q) (list_any test ps) h) a

is_there : (p : Relation) (ps : List Relation) → is_among p ps ≡ true → IsAmong p ps
is_there p [] h = absurd (let bad : ⊥ = cc in bad)
is_there p (q ∷ ps) h = go (λ k. is_there p ps k) (relation_eq p q) refl h
  where
    go : (is_among p ps ≡ true → IsAmong p ps) → (b : Bool) → relation_eq p q ≡ b → (b || is_among p ps) ≡ true → IsAmong p (q ∷ ps)
    go later true e k = inl (relation_eq_yes p q e)
    go later false e k = inr (later k)

-- where no item strays, the rules of the first list's relations ask those of the second alone
asks_within : (heads asked : List Relation) (items : List Tree) → some_item (strays heads asked) items ≡ false
    → (rule : Alternative) → IsAmong rule (alternatives items) → is_among (relation_of rule.head) heads ≡ true
    → (l : Literal) → IsAmong l rule.body → is_distinct (relation_of (atom_of l)) ≡ false → is_among (relation_of (atom_of l)) asked ≡ true
asks_within heads asked items none rule a h l in_body other =
    let i = rule_item items rule a in
    let p = relation_of (atom_of l) in
    let here : heads_one heads i.0 ≡ true = ap (λ (q : Relation). is_among q heads) (sym (rule_head i.0 rule i.2)) ∙ h in
    let straight = second_false (heads_one heads i.0) (list_any (is_stray asked) (asked_relations i.0)) here
    (no_item (strays heads asked) items i.0 none i.1) in
    let there : IsAmong p (asked_relations i.0) =
    among_map_in (λ (k : Literal). relation_of (atom_of k)) l (literals_of_all (body_trees i.0)) (stands_in_item i.0 rule i.2 l in_body) in
    is_asked (is_distinct p) (is_among p asked) other (none_of (is_stray asked) (asked_relations i.0) p straight there)

-- what passes all tests stands alone
pub stands_alone : (own below set : List Relation) (found written : List Tree) → says_states below ≡ false → list_any (is_unfit below) own ≡ false
    → some_item (strays below below) written ≡ false → ((p : Relation) → is_among p set ≡ is_among p own)
    → some_item (strays set set) found ≡ false → StandAlone own below (alternatives found) (alternatives written)
stands_alone own below set found written states fit straight same own_straight = record {
  own_asked = λ rule a h l in_body other.
      sym (same (relation_of (atom_of l)))
      ∙ asks_within set set found own_straight rule a (same (relation_of rule.head) ∙ h) l in_body other;
  below_asked = asks_within below below written straight;
  own_below = λ p h. was_true (is_among p below) (left_false (not (is_among p below)) (is_moving p || (is_distinct p || is_variable p.word)) (fits p h));
  own_still = λ p h. left_false (is_moving p) (is_distinct p || is_variable p.word) (below_fits p h);
  own_other = λ p h. left_false (is_distinct p) (is_variable p.word) (still_fits p h);
  own_constant = λ p h. right_false (is_distinct p) (is_variable p.word) (still_fits p h);
  no_base = left_false (is_among base_relation below) (is_among next_relation below) states;
  no_next = right_false (is_among base_relation below) (is_among next_relation below) states;
}
  where
    fits : (p : Relation) → is_among p own ≡ true → is_unfit below p ≡ false
    fits p h = none_of (is_unfit below) own p fit (is_there p own h)

    below_fits : (p : Relation) → is_among p own ≡ true → (is_moving p || (is_distinct p || is_variable p.word)) ≡ false
    below_fits p h = right_false (not (is_among p below)) (is_moving p || (is_distinct p || is_variable p.word)) (fits p h)

    still_fits : (p : Relation) → is_among p own ≡ true → (is_distinct p || is_variable p.word) ≡ false
    still_fits p h = right_false (is_moving p) (is_distinct p || is_variable p.word) (below_fits p h)
