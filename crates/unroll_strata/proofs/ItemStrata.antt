-- The strata of items that cross nothing: that of a relation is the number of items whose head it is or depends on.
use Rattle.std.specs.Prelude.{All}
use Rattle.std.proofs.Common.{ℕ, zero, suc, Bool, true, false, ◌||◌, ◌≡◌, ◌⊎◌, inl, inr, List, [], ◌∷◌, length, filter, refl, sym, ap, subst}
use Rattle.std.proofs.lemmas.List.Elements.{All-head, All-tail}
use Rattle.statement.specs.Tree.{Tree}
use Rattle.statement.specs.Clause.{Atom, Literal, positive, negative, Relation, relation_of, relation_eq, atom_of}
use Rattle.statement.specs.Items.{alternatives, item_head}
use Rattle.statement.specs.Dependence.{IsAmong, is_distinct, DependsDirectly, Depends, has_edge, dependences}
use Rattle.rules_profile.proofs.Facts.{relation_eq_yes, relation_eq_self, or_cases, or_left, or_right, table_sound, table_complete, rule_item, same_head}
use Rattle.rules_relations.specs.Asking.{body_literals}
use Rattle.meaning.specs.Derivable.{StandsBelow, AreStrata}
use Rattle.unroll_strata.proofs.Facts.{stands_in_item}
use Rattle.unroll_strata.specs.Resting.{RestsOnItsNegation, rule_in, rules_in}
use Rattle.unroll_strata.proofs.Counts.{as_many, more}

-- what holds of each item holds of one of them
of_each : (P : Tree → Type 0) (ts : List Tree) (t : Tree) → All P ts → IsAmong t ts → P t
of_each P [] t all a = absurd a
of_each P (u ∷ ts) t all (inl e) = subst P (sym e) (All-head P u ts all)
of_each P (u ∷ ts) t all (inr a) = of_each P ts t (All-tail P u ts all) a

rule_there : (items : List Tree) (t : Tree) → IsAmong t items → IsAmong (rule_in t) (rules_in items)
rule_there [] t a = absurd a
rule_there (u ∷ items) t (inl e) = inl (ap rule_in e)
rule_there (u ∷ items) t (inr a) = inr (rule_there items t a)

module _ (items : List Tree) where
  -- the first relation is the second, or depends on it
  abbrev IsAbove : Relation → Relation → Type 0
  IsAbove p q = (p ≡ q) ⊎ Depends (rules_in items) p q

  abbrev is_above : Relation → Relation → Bool
  is_above p q = relation_eq p q || has_edge (dependences (rules_in items)) p q

  -- the number of items that the relation is above, each by its head
  abbrev pub stratum : Relation → ℕ
  stratum p = length (filter (λ t. is_above p (relation_of (item_head t))) items)

  above : (p q : Relation) → is_above p q ≡ true → IsAbove p q
  above p q h = elim (or_cases (relation_eq p q) (has_edge (dependences (rules_in items)) p q) h) [
    | inl e ↦ inl (relation_eq_yes p q e)
    | inr d ↦ inr (table_sound (rules_in items) p q d)
  ]

  tested : (p q : Relation) → IsAbove p q → is_above p q ≡ true
  tested p q (inl e) = or_left _ _ (subst (λ (r : Relation). relation_eq p r ≡ true) e (relation_eq_self p))
  tested p q (inr d) = or_right (relation_eq p q) _ (table_complete (rules_in items) p q d)

  further : (p q r : Relation) → DependsDirectly (rules_in items) p q → IsAbove q r → IsAbove p r
  further p q r d (inl e) = inr (zero, subst (λ (x : Relation). DependsDirectly (rules_in items) p x) e d)
  further p q r d (inr rest) = inr (suc rest.0, (q, d, rest.1))

  -- an item's head depends on the relations of its body
  direct : (t : Tree) (l : Literal) → IsAmong t items → IsAmong l (body_literals t) → is_distinct (relation_of (atom_of l)) ≡ false
      → DependsDirectly (rules_in items) (relation_of (item_head t)) (relation_of (atom_of l))
  direct t l is_item in_body other = record {
    rule = rule_in t;
    literal = l;
    is_rule = rule_there items t is_item;
    heads = refl;
    in_body = in_body;
    names = refl;
    not_distinct = other;
  }

  -- so the head is above whatever they are above
  on : (t : Tree) (l : Literal) → IsAmong t items → IsAmong l (body_literals t) → is_distinct (relation_of (atom_of l)) ≡ false
      → (r : Relation) → is_above (relation_of (atom_of l)) r ≡ true → is_above (relation_of (item_head t)) r ≡ true
  on t l is_item in_body other r h =
      let p = relation_of (item_head t) in
      let q = relation_of (atom_of l) in
      tested p r (further p q r (direct t l is_item in_body other) (above q r h))

  module _ (crosses_nothing : All (λ t. ¬ RestsOnItsNegation items t) items) where
    -- and a negated one of them is not above the head
    not_back : (t : Tree) (y : Atom) → IsAmong t items → IsAmong (negative y) (body_literals t) → is_distinct (relation_of y) ≡ false
        → is_above (relation_of y) (relation_of (item_head t)) ≡ false
    not_back t y is_item in_body other = go (is_above (relation_of y) (relation_of (item_head t))) refl
      where
        go : (b : Bool) → is_above (relation_of y) (relation_of (item_head t)) ≡ b → b ≡ false
        go true h = absurd (of_each (λ (u : Tree). ¬ RestsOnItsNegation items u) items t crosses_nothing is_item (record {
          atom = y;
          in_body = in_body;
          not_distinct = other;
          back = above (relation_of y) (relation_of (item_head t)) h;
        }))
        go false h = refl

    stands : (t : Tree) (l : Literal) → IsAmong t items → IsAmong l (body_literals t) → is_distinct (relation_of (atom_of l)) ≡ false
        → StandsBelow stratum (relation_of (item_head t)) l
    stands t (positive y) is_item in_body other =
        as_many (λ u. is_above (relation_of y) (relation_of (item_head u))) (λ u. is_above (relation_of (item_head t)) (relation_of (item_head u)))
        (λ u. on t (positive y) is_item in_body other (relation_of (item_head u))) items
    stands t (negative y) is_item in_body other =
        more (λ u. is_above (relation_of y) (relation_of (item_head u))) (λ u. is_above (relation_of (item_head t)) (relation_of (item_head u)))
        (λ u. on t (negative y) is_item in_body other (relation_of (item_head u))) t (not_back t y is_item in_body other)
        (tested (relation_of (item_head t)) (relation_of (item_head t)) (inl refl)) items is_item

    pub are_strata : AreStrata (alternatives items) stratum
    are_strata = λ rule is_rule l in_body other.
        let i = rule_item items rule is_rule in
        subst (λ (p : Relation). StandsBelow stratum p l) (ap relation_of (sym (same_head (item_head i.0) _ rule i.2)))
        (stands i.0 l i.1 (stands_in_item i.0 rule i.2 l in_body) other)
