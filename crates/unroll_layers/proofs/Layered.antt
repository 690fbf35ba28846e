-- Items that pass all tests are layered.
use Rattle.std.proofs.Common.{ℕ, suc, Bool, true, false, ◌≡◌, ◌<◌, ◌≤◌, ◌⊎◌, inl, inr, List, [], ◌∷◌, length, sym, ap, subst, ◌∙◌, arith}
use Rattle.std.specs.Prelude.{Vec, nat_lt}
use Rattle.std.specs.Bool.{OnTrue}
use Rattle.std.specs.List.{list_all}
use Rattle.statement.specs.Tree.{Tree}
use Rattle.statement.specs.Clause.{Alternative, Relation, relation_of}
use Rattle.statement.specs.Dependence.{IsAmong, is_among}
use Rattle.statement.specs.Items.{item_head, alternatives}
use Rattle.rules_relations.specs.Asking.{some_item}
use Rattle.meaning.specs.Layers.{IsLayered, IsFirst, IsStep, layered, layer_of}
use Rattle.meaning.specs.Names.{word_in, names_of}
use Rattle.meaning.specs.Stacks.{IsCarrying}
use Rattle.unroll_layers.specs.Naming.{are_unfit}
use Rattle.unroll_layers.specs.Kinds.{is_single, count_own, body_of, is_unclear}
use Rattle.unroll_layers.specs.Layering.{are_layers, is_stray_top, passes}
use Rattle.unroll_layers.proofs.Bodies.{rule_of, step_body}
use Rattle.unroll_layers.proofs.NameLaws.{plain, plain_layers, once}
use Rattle.unroll_layers.proofs.Passed as passed
use Rattle.unroll_layers.proofs.Passed.{few}

module _ (own : List Relation) (first_names : List (List ℕ)) (rest : List (List (List ℕ))) (found written : List Tree)
    (fit : are_unfit own (first_names ∷ rest) ≡ false)
    (clear : some_item (is_unclear own false) found ≡ false)
    (tops : some_item (is_stray_top own (first_names ∷ rest)) written ≡ false)
    (laid : list_all (λ p. are_layers own p false (first_names ∷ rest) found written) own ≡ true)
  where
    abbrev layers : List (List (List ℕ))
    layers = first_names ∷ rest

    abbrev is_own : Relation → Bool
    is_own p = is_among p own

    abbrev word : ℕ → Relation → List ℕ
    word = word_in own layers

    -- an item with own atoms has one
    step_kind : (t : Tree) → IsAmong t found → is_own (relation_of (item_head t)) ≡ true → list_all is_single (body_of t) ≡ true
        → nat_lt 0 (count_own own (body_of t)) ≡ true → IsStep is_own (rule_of t)
    step_kind t a o s n =
        step_body own (item_head t) (body_of t) s (few (count_own own (body_of t)) (passed.not_many false own first_names rest found written fit clear tops laid t a o) n)

    kinds : (rule : Alternative) → IsAmong rule (alternatives found) → is_own (relation_of rule.head) ≡ true
        → IsFirst is_own rule ⊎ IsStep is_own rule
    kinds rule a o = go (passed.kinds_of false own first_names rest found written fit clear tops laid rule a o)
      where
        go : IsFirst is_own rule
            ⊎ ((t : Tree) × IsAmong t found × (rule ≡ rule_of t) × (list_all is_single (body_of t) ≡ true) × (nat_lt 0 (count_own own (body_of t)) ≡ true))
            → IsFirst is_own rule ⊎ IsStep is_own rule
        go (inl f) = inl f
        go (inr t) =
            let o' : is_own (relation_of (item_head t.0)) ≡ true = ap (λ (r : Alternative). is_own (relation_of r.head)) (sym t.2) ∙ o in
            inr (subst (IsStep is_own) (sym t.2) (step_kind t.0 t.1 o' t.3 t.4))

    next : (k : ℕ) → 1 ≤ k → k < length layers → (rule : Alternative) → IsAmong rule (alternatives found) → is_own (relation_of rule.head) ≡ true
        → IsStep is_own rule → IsAmong (layered is_own word k rule) (alternatives written)
    next k l m rule a o s = passed.next false own first_names rest found written fit clear tops laid k l m rule a o (s.0, s.1, s.2)

    only_next : (k : ℕ) → 1 ≤ k → k < length layers → (p : Relation) → is_own p ≡ true → (rule : Alternative) → IsAmong rule (alternatives written)
        → relation_of rule.head ≡ layer_of word (suc k) p
        → (r : Alternative) × IsAmong r (alternatives found) × (relation_of r.head ≡ p) × IsStep is_own r × (rule ≡ layered is_own word k r)
    only_next k l m p o rule a e = go (passed.only_next false own first_names rest found written fit clear tops laid k l m p o rule a e)
      where
        go : ((t : Tree) × IsAmong t found × IsAmong (rule_of t) (alternatives found) × (relation_of (item_head t) ≡ p)
            × (list_all is_single (body_of t) ≡ true) × (nat_lt 0 (count_own own (body_of t)) ≡ true) × (rule ≡ layered is_own word k (rule_of t)))
            ⊎ ((false ≡ true) × IsCarrying word k p rule)
            → (r : Alternative) × IsAmong r (alternatives found) × (relation_of r.head ≡ p) × IsStep is_own r × (rule ≡ layered is_own word k r)
        go (inr c) = absurd (let e = c.0 in let bad : ⊥ = cc in bad)
        go (inl t) = (rule_of t.0, t.2, t.3, step_kind t.0 t.1 (ap is_own t.3 ∙ o) t.4 t.5, t.6)

    layered_here : IsLayered (alternatives found) (alternatives written) is_own word (length layers)
    layered_here = record {
      some = (let q : 1 ≤ length layers = omega arith in q);
      kinds = kinds;
      first = passed.first false own first_names rest found written fit clear tops laid;
      next = next;
      only_first = passed.only_first false own first_names rest found written fit clear tops laid;
      only_next = only_next;
      only_top = passed.only_top false own first_names rest found written fit clear tops laid;
      once = once own layers fit;
      plain = plain own layers fit;
      plain_layers = plain_layers own layers fit;
    }

is_layered : (own : List Relation) (layers : List (List (List ℕ))) (found written : List Tree) → passes false own layers found written ≡ true
    → IsLayered (alternatives found) (alternatives written) (λ p. is_among p own) (word_in own layers) (length layers)
is_layered own [] found written h = absurd (let bad : ⊥ = cc in bad)
is_layered own (names ∷ rest) found written h =
    let k = passed.passed false own (names ∷ rest) found written h in layered_here own names rest found written k.1 k.2 k.3 k.4

-- the same of names in memory
pub says_layered : {G H : Type 0} (own : List Relation) (vs : List (Vec (Vec ℕ G) H)) (found written : List Tree) (b : Bool)
    → b ≡ passes false own (names_of vs) found written
    → OnTrue b (IsLayered (alternatives found) (alternatives written) (λ p. is_among p own) (word_in own (names_of vs)) (length vs))
says_layered own vs found written b h =
    passed.on_passed vs b (passes false own (names_of vs) found written)
    (λ n. IsLayered (alternatives found) (alternatives written) (λ p. is_among p own) (word_in own (names_of vs)) n) h
    (is_layered own (names_of vs) found written)
