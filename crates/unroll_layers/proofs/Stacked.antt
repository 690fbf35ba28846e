-- Items that pass all tests where layers keep those before are stacked.
use Rattle.std.proofs.Common.{ℕ, suc, Bool, true, false, ◌≡◌, ◌<◌, ◌≤◌, ◌⊎◌, inl, inr, List, [], ◌∷◌, length, sym, subst, arith}
use Rattle.std.specs.Prelude.{Vec, nat_lt}
use Rattle.std.specs.Bool.{OnTrue}
use Rattle.std.specs.List.{list_all}
use Rattle.statement.specs.Tree.{Tree}
use Rattle.statement.specs.Clause.{Alternative, Relation, relation_of}
use Rattle.statement.specs.Dependence.{IsAmong, is_among}
use Rattle.statement.specs.Items.{item_head, alternatives}
use Rattle.rules_relations.specs.Asking.{some_item}
use Rattle.meaning.specs.Layers.{IsFirst, layered, layer_of}
use Rattle.meaning.specs.Names.{word_in, names_of}
use Rattle.meaning.specs.Stacks.{IsStacked, IsInner, IsCarrying}
use Rattle.unroll_layers.specs.Naming.{are_unfit}
use Rattle.unroll_layers.specs.Kinds.{is_single, count_own, body_of, is_unclear}
use Rattle.unroll_layers.specs.Layering.{are_layers, is_stray_top, passes}
use Rattle.unroll_layers.proofs.Bodies.{rule_of}
use Rattle.unroll_layers.proofs.NameLaws.{plain, plain_layers, once}
use Rattle.unroll_layers.proofs.Passed as passed

module _ (own : List Relation) (first_names : List (List ℕ)) (rest : List (List (List ℕ))) (found written : List Tree)
    (fit : are_unfit own (first_names ∷ rest) ≡ false)
    (clear : some_item (is_unclear own true) found ≡ false)
    (tops : some_item (is_stray_top own (first_names ∷ rest)) written ≡ false)
    (laid : list_all (λ p. are_layers own p true (first_names ∷ rest) found written) own ≡ true)
  where
    abbrev layers : List (List (List ℕ))
    layers = first_names ∷ rest

    abbrev is_own : Relation → Bool
    is_own p = is_among p own

    abbrev word : ℕ → Relation → List ℕ
    word = word_in own layers

    inner_kind : (t : Tree) → nat_lt 0 (count_own own (body_of t)) ≡ true → IsInner is_own (rule_of t)
    inner_kind t n = passed.inner_kind true own first_names rest found written fit clear tops laid t n

    kinds : (rule : Alternative) → IsAmong rule (alternatives found) → is_own (relation_of rule.head) ≡ true
        → IsFirst is_own rule ⊎ IsInner is_own rule
    kinds rule a o = go (passed.kinds_of true own first_names rest found written fit clear tops laid rule a o)
      where
        go : IsFirst is_own rule
            ⊎ ((t : Tree) × IsAmong t found × (rule ≡ rule_of t) × (list_all is_single (body_of t) ≡ true) × (nat_lt 0 (count_own own (body_of t)) ≡ true))
            → IsFirst is_own rule ⊎ IsInner is_own rule
        go (inl f) = inl f
        go (inr t) = inr (subst (IsInner is_own) (sym t.2) (inner_kind t.0 t.4))

    next : (k : ℕ) → 1 ≤ k → k < length layers → (rule : Alternative) → IsAmong rule (alternatives found) → is_own (relation_of rule.head) ≡ true
        → IsInner is_own rule → IsAmong (layered is_own word k rule) (alternatives written)
    next = passed.next true own first_names rest found written fit clear tops laid

    only_next : (k : ℕ) → 1 ≤ k → k < length layers → (p : Relation) → is_own p ≡ true → (rule : Alternative) → IsAmong rule (alternatives written)
        → relation_of rule.head ≡ layer_of word (suc k) p
        → ((r : Alternative) × IsAmong r (alternatives found) × (relation_of r.head ≡ p) × IsInner is_own r × (rule ≡ layered is_own word k r))
        ⊎ IsCarrying word k p rule
    only_next k l m p o rule a e = go (passed.only_next true own first_names rest found written fit clear tops laid k l m p o rule a e)
      where
        go : ((t : Tree) × IsAmong t found × IsAmong (rule_of t) (alternatives found) × (relation_of (item_head t) ≡ p)
            × (list_all is_single (body_of t) ≡ true) × (nat_lt 0 (count_own own (body_of t)) ≡ true) × (rule ≡ layered is_own word k (rule_of t)))
            ⊎ ((true ≡ true) × IsCarrying word k p rule)
            → ((r : Alternative) × IsAmong r (alternatives found) × (relation_of r.head ≡ p) × IsInner is_own r × (rule ≡ layered is_own word k r))
            ⊎ IsCarrying word k p rule
        go (inr c) = inr c.1
        go (inl t) = inl (rule_of t.0, t.2, t.3, inner_kind t.0 t.5, t.6)

    stacked_here : IsStacked (alternatives found) (alternatives written) is_own word (length layers)
    stacked_here = record {
      some = (let q : 1 ≤ length layers = omega arith in q);
      kinds = kinds;
      first = passed.first true own first_names rest found written fit clear tops laid;
      next = next;
      only_first = passed.only_first true own first_names rest found written fit clear tops laid;
      only_next = only_next;
      only_top = passed.only_top true own first_names rest found written fit clear tops laid;
      once = once own layers fit;
      plain = plain own layers fit;
      plain_layers = plain_layers own layers fit;
    }

is_stacked : (own : List Relation) (layers : List (List (List ℕ))) (found written : List Tree) → passes true own layers found written ≡ true
    → IsStacked (alternatives found) (alternatives written) (λ p. is_among p own) (word_in own layers) (length layers)
is_stacked own [] found written h = absurd (let bad : ⊥ = cc in bad)
is_stacked own (names ∷ rest) found written h =
    let k = passed.passed true own (names ∷ rest) found written h in stacked_here own names rest found written k.1 k.2 k.3 k.4

-- the same of names in memory
pub says_stacked : {G H : Type 0} (own : List Relation) (vs : List (Vec (Vec ℕ G) H)) (found written : List Tree) (b : Bool)
    → b ≡ passes true own (names_of vs) found written
    → OnTrue b (IsStacked (alternatives found) (alternatives written) (λ p. is_among p own) (word_in own (names_of vs)) (length vs))
says_stacked own vs found written b h =
    passed.on_passed vs b (passes true own (names_of vs) found written)
    (λ n. IsStacked (alternatives found) (alternatives written) (λ p. is_among p own) (word_in own (names_of vs)) n) h
    (is_stacked own (names_of vs) found written)
