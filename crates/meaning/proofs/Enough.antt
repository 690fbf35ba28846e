-- What the rules of own relations derive stands in a layer, so it is there where there are layers enough.
use Rattle.std.proofs.Common.{ℕ, zero, suc, Bool, true, ◌≡◌, ◌<◌, ◌≤◌, ◌⊎◌, ◌↔◌, inl, inr, List, [], ◌∷◌, length, map, refl, sym, ap, subst, ◌∙◌, arith}
use Rattle.statement.specs.Clause.{Atom, Literal, positive, Alternative, Relation, relation_of}
use Rattle.statement.specs.Dependence.{IsAmong}
use Rattle.statement.specs.Substitution.{atom_under, literal_under}
use Rattle.statement.specs.Meaning.{ordinary, source_of, IsDerived}
use Rattle.statement.specs.Listing.{Instance, listing}
use Rattle.meaning.specs.Kept.{HeadsKept}
use Rattle.meaning.specs.InOrder.{AreDistinct}
use Rattle.meaning.proofs.Facts.{relation-under, among_map_in}
use Rattle.meaning.specs.Layers.{named, layered, layered_literal, IsFirst, IsStep, IsLayered, IsWay}
use Rattle.meaning.proofs.Reading.{plain_source, named_under, inner_same, in_layered, own_head}
use Rattle.meaning.proofs.Chains.{IsChain, chain_own, distinct_or_shorter, named_fit, led, chain_there, chain_back}

module _ (rules out : List Alternative) (own : Relation → Bool) (word : ℕ → Relation → List ℕ) (n : ℕ) (is : IsLayered rules out own word n)
    (Val : Atom → Type 0) (Fit : Literal → Type 0) (law : (x : Atom) → Val x ↔ IsDerived out Fit x)
    (plain_fit : (y : Atom) → source_of y ≡ ordinary → Fit (positive y) ↔ Val y)
    (seen : (x : Atom) (d : IsDerived out Fit x)
    → (i : Instance) × IsAmong i (listing out).kept × (i.head ≡ x) × (i.body ≡ map (literal_under d.map) d.rule.body))
    (heads : (x : Atom) → Val x → HeadsKept out x)
    (top : (k : ℕ) → 1 ≤ k → k ≤ n → (x : Atom) → own (relation_of x) ≡ true → Val (named word k x) → Val x)
    (short : (ys : List Atom) (x : Atom) → IsWay out own word ys x → AreDistinct (x ∷ ys) → suc (length ys) < n)
  where
    abbrev Chain : List Atom → Atom → Type 0
    Chain ys x = IsChain rules own Fit ys x

    abbrev there : (ys : List Atom) (x : Atom) → Chain ys x → length ys < n → Val (named word (suc (length ys)) x)
    there ys x c lt = chain_there rules out own word n is Val Fit law plain_fit ys x c lt

    -- a chain that has its layers is a way
    way_of : (ys : List Atom) (x : Atom) → Chain ys x → length ys < n → IsWay out own word ys x
    way_of [] x c lt = (c.0, heads (named word 1 x) (there [] x c lt))
    way_of (y ∷ ys) x c lt =
        let own_y = chain_own rules own Fit ys y c.2 in
        let k = suc (length ys) in
        let d : IsDerived out Fit (named word (suc k) x) =
        led rules out own word n is Val Fit law plain_fit k (omega arith) (omega (arith, lt)) y x own_y c.0 (there ys y c.2 (omega (arith, lt))) c.1 in
        let i = seen (named word (suc k) x) d in
        (c.0, ((i.0, i.1, i.2, subst (λ (b : List Literal). IsAmong (positive (named word k y)) b) (sym i.3) (read k)), way_of ys y c.2 (omega (arith, lt))))
      where
        read : (k : ℕ) → IsAmong (positive (named word k y)) (map (literal_under c.1.map) (layered own word k c.1.rule).body)
        read k =
            let a = in_layered own word k c.1.rule (positive c.1.step.0) c.1.step.1 in
            let e : literal_under c.1.map (layered_literal own word k (positive c.1.step.0)) ≡ positive (named word k y) =
            ap (λ (l : Literal). literal_under c.1.map l) (inner_same own word k c.1.step.0 c.1.step.2)
            ∙ ap positive (named_under own word c.1.map k c.1.step.0 ∙ ap (λ (z : Atom). named word k z) c.1.names) in
            subst (λ (l : Literal). IsAmong l (map (literal_under c.1.map) (layered own word k c.1.rule).body)) e
            (among_map_in (literal_under c.1.map) (layered_literal own word k (positive c.1.step.0)) (layered own word k c.1.rule).body a)

    -- a chain that has its layers has a part with at least one to spare
    spare_chain : (y : Atom) (ys : List Atom) → length ys < n → Chain ys y → (zs : List Atom) × (suc (length zs) < n) × Chain zs y
    spare_chain y ys lt c = go (distinct_or_shorter rules own Fit ys y c)
      where
        go : AreDistinct (y ∷ ys) ⊎ ((zs : List Atom) × (length zs < length ys) × Chain zs y)
            → (zs : List Atom) × (suc (length zs) < n) × Chain zs y
        go (inl differ) = (ys, short ys y (way_of ys y c lt) differ, c)
        go (inr s) = let less = s.1 in (s.0, omega (arith, lt), s.2)

    -- an own atom that is there has a chain with at least one layer to spare
    spare : (y : Atom) → own (relation_of y) ≡ true → Val y → (ys : List Atom) × (suc (length ys) < n) × Chain ys y
    spare y is_own v =
        let d = (law y).0 v in
        let t = is.only_top d.rule d.is_rule (own_head own word d.rule d.map y d.heads is_own) in
        by_layer d t.0 t.1 t.2 t.3
      where
        by_layer : (d : IsDerived out Fit y) (k : ℕ) → 1 ≤ k → k ≤ n → d.rule.body ≡ positive (named word k d.rule.head) ∷ []
            → (ys : List Atom) × (suc (length ys) < n) × Chain ys y
        by_layer d zero low high body = absurd (omega (arith, low))
        by_layer d (suc k) low high body =
            let fit : Fit (positive (named word (suc k) y)) =
            subst (λ (z : Atom). Fit (positive z)) (named_under own word d.map (suc k) d.rule.head ∙ ap (λ (z : Atom). named word (suc k) z) d.heads)
            (d.fits (positive (named word (suc k) d.rule.head))
            (subst (λ (b : List Literal). IsAmong (positive (named word (suc k) d.rule.head)) b) (sym body) (inl refl))) in
            let c = chain_back rules out own word n is Val Fit law plain_fit k (omega (arith, high)) y is_own
            ((named_fit rules out own word n is Val Fit law plain_fit (suc k) low high y is_own).0 fit) in
            spare_chain y c.0 (let e = c.1 in omega (arith, high)) c.2

    chain_holds : (ys : List Atom) (x : Atom) → Chain ys x → length ys < n → Val x
    chain_holds ys x c lt = top (suc (length ys)) (omega arith) (omega (arith, lt)) x (chain_own rules own Fit ys x c) (there ys x c lt)

    -- what the rules derive is there
    pub there_again : (x : Atom) → own (relation_of x) ≡ true → IsDerived rules Fit x → Val x
    there_again x is_own d =
        go (is.kinds d.rule d.is_rule (own_head own word d.rule d.map x d.heads is_own))
      where
        go : IsFirst own d.rule ⊎ IsStep own d.rule → Val x
        go (inl first) = chain_holds [] x (
          is_own,
          record {
            rule = d.rule;
            map = d.map;
            is_rule = d.is_rule;
            maps_to_ground = d.maps_to_ground;
            heads = d.heads;
            first = first;
            fits = d.fits;
          },
        ) (let some = is.some in omega arith)
        go (inr step) =
            let y : Atom = atom_under d.map step.0 in
            let own_y : own (relation_of y) ≡ true = ap own (relation-under d.map step.0) ∙ step.2 in
            let s = spare y own_y ((plain_fit y (plain_source y (is.plain (relation_of y) own_y))).0 (d.fits (positive step.0) step.1)) in
            let enough = s.1 in
            chain_holds (y ∷ s.0) x (
              is_own,
              record {
                rule = d.rule;
                map = d.map;
                is_rule = d.is_rule;
                maps_to_ground = d.maps_to_ground;
                heads = d.heads;
                step = step;
                names = refl;
                fits = λ l in_body other. d.fits l in_body;
              },
              s.2,
            ) (omega arith)
