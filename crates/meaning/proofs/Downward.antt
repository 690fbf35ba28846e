-- What holds in a layer is derivable by the rules of own relations, if what these ask of others is.
use Rattle.std.proofs.Common.{ℕ, zero, suc, Bool, true, false, ◌≡◌, ◌<◌, ◌≤◌, ◌⊎◌, ◌↔◌, inl, inr, List, [], ◌∷◌, refl, sym, ap, subst, ◌∙◌, arith}
use Rattle.statement.specs.Clause.{Atom, Literal, positive, negative, Alternative, Relation, relation_of, atom_of}
use Rattle.statement.specs.Dependence.{IsAmong, is_distinct, is_moving, DependsDirectly, Depends}
use Rattle.statement.specs.Substitution.{atom_under, literal_under}
use Rattle.statement.specs.Meaning.{StateOfTerms, Joint, Source, ordinary, source_of, RightAs, IsRight, IsDerived, Holds}
use Rattle.meaning.proofs.Facts.{relation-under, ordinary_not_distinct}
use Rattle.meaning.specs.Derivable.{IsRightOver, IsDerivable}
use Rattle.meaning.specs.Extension.{IsAsked}
use Rattle.meaning.specs.Layers.{named, layer_of, layered_literal, layered, IsFirst}
use Rattle.meaning.specs.Stacks.{IsInner, IsCarrying, IsStacked}
use Rattle.meaning.proofs.Reading.{plain_source, named_under, outer_same, inner_same, in_layered, IsRead, read_stacked, carried_fits}
use Rattle.meaning.proofs.Gathered.{right_along, derivable}

module _ (rules out : List Alternative) (own : Relation → Bool) (word : ℕ → Relation → List ℕ) (n : ℕ) (is : IsStacked rules out own word n)
    (S : StateOfTerms) (J : Joint) (law : (x : Atom) → Holds out S J x ↔ IsDerived out (IsRight S J (Holds out S J)) x)
  where
    abbrev H : Atom → Type 0
    H x = Holds out S J x

    abbrev Read : ℕ → Atom → Type 0
    Read k x = IsRead rules out own word (IsInner own) (IsRight S J (Holds out S J)) k x

    -- what holds of those that the relation rests on and the rules ask is derivable
    abbrev pub Below : Relation → Type 0
    Below p = (y : Atom) → Depends out p (relation_of y) → IsAsked rules (relation_of y) → Holds out S J y → IsDerivable rules S J (Holds out S J) y

    -- and of those that a relation on which it rests rests on
    below_later : (p q : Relation) → DependsDirectly out p q → Below p → Below q
    below_later p q direct below y d asked h = below y (suc d.0, (q, direct, d.1)) asked h

    -- a layer rests on what its rules ask
    asks : (k : ℕ) (x : Atom) (r : Read k x) (l : Literal) → IsAmong l r.rule.body
        → is_distinct (relation_of (atom_of (layered_literal own word k l))) ≡ false
        → DependsDirectly out (layer_of word (suc k) (relation_of x)) (relation_of (atom_of (layered_literal own word k l)))
    asks k x r l in_body other = record {
      rule = layered own word k r.rule;
      literal = layered_literal own word k l;
      is_rule = r.there;
      heads = ap (λ (p : Relation). layer_of word (suc k) p) (sym (relation-under r.map r.rule.head) ∙ ap relation_of r.heads);
      in_body = in_layered own word k r.rule l in_body;
      names = refl;
      not_distinct = other;
    }

    -- a literal that is not of an own atom
    outer : (k : ℕ) (x : Atom) (r : Read k x) → Below (layer_of word (suc k) (relation_of x)) → (z : Atom) → IsAmong (positive z) r.rule.body
        → own (relation_of z) ≡ false → IsRightOver S J H (IsDerivable rules S J H) (positive (atom_under r.map z))
    outer k x r below z in_body o =
        right_along S J (H (atom_under r.map z)) (IsDerivable rules S J H (atom_under r.map z)) (source_of (atom_under r.map z)) (λ plain h. below (atom_under r.map z) (zero, direct plain) asked h)
        (subst (λ (q : Literal). IsRight S J H (literal_under r.map q)) same (r.fits (positive z) in_body))
      where
        same : layered_literal own word k (positive z) ≡ positive z
        same = outer_same own word k (positive z) o

        asked : IsAsked rules (relation_of (atom_under r.map z))
        asked = (r.rule, r.is_rule, (positive z, in_body, sym (relation-under r.map z)))

        names : relation_of (atom_of (layered_literal own word k (positive z))) ≡ relation_of (atom_under r.map z)
        names = ap (λ (l : Literal). relation_of (atom_of l)) same ∙ sym (relation-under r.map z)

        direct : source_of (atom_under r.map z) ≡ ordinary → DependsDirectly out (layer_of word (suc k) (relation_of x)) (relation_of (atom_under r.map z))
        direct plain =
            subst (λ (q : Relation). DependsDirectly out (layer_of word (suc k) (relation_of x)) q) names
            (asks k x r (positive z) in_body (ap is_distinct names ∙ ordinary_not_distinct (atom_under r.map z) plain))

    -- the own atom holds in the layer before
    inner : (k : ℕ) → suc k < n → (x : Atom) (r : Read (suc k) x) (z : Atom) → IsAmong (positive z) r.rule.body → own (relation_of z) ≡ true
        → H (named word (suc k) (atom_under r.map z))
        × DependsDirectly out (layer_of word (suc (suc k)) (relation_of x)) (layer_of word (suc k) (relation_of (atom_under r.map z)))
    inner k lt x r z in_body o = (holds, direct)
      where
        own_y : own (relation_of (atom_under r.map z)) ≡ true
        own_y = ap own (relation-under r.map z) ∙ o

        plain : source_of (named word (suc k) (atom_under r.map z)) ≡ ordinary
        plain = plain_source (named word (suc k) (atom_under r.map z)) (is.plain_layers (suc k) (omega arith) (omega (arith, lt)) (relation_of (atom_under r.map z)) own_y)

        same : layered_literal own word (suc k) (positive z) ≡ positive (named word (suc k) z)
        same = inner_same own word (suc k) z o

        right : IsRight S J H (positive (named word (suc k) (atom_under r.map z)))
        right =
            subst (λ (q : Atom). IsRight S J H (positive q)) (named_under own word r.map (suc k) z)
            (subst (λ (q : Literal). IsRight S J H (literal_under r.map q)) same (r.fits (positive z) in_body))

        holds : H (named word (suc k) (atom_under r.map z))
        holds = subst (λ (s : Source). RightAs S J (H (named word (suc k) (atom_under r.map z))) s) plain right

        names : relation_of (atom_of (layered_literal own word (suc k) (positive z))) ≡ layer_of word (suc k) (relation_of (atom_under r.map z))
        names =
            ap (λ (l : Literal). relation_of (atom_of l)) same
            ∙ ap (λ (p : Relation). layer_of word (suc k) p) (sym (relation-under r.map z))

        direct : DependsDirectly out (layer_of word (suc (suc k)) (relation_of x)) (layer_of word (suc k) (relation_of (atom_under r.map z)))
        direct =
            subst (λ (q : Relation). DependsDirectly out (layer_of word (suc (suc k)) (relation_of x)) q) names
            (asks (suc k) x r (positive z) in_body
            (ap is_distinct names ∙ (is.plain_layers (suc k) (omega arith) (omega (arith, lt)) (relation_of (atom_under r.map z)) own_y).1))

    -- what is read of a layer is derivable, if its own atoms are
    derived_again : (k : ℕ) (x : Atom) (r : Read k x) → Below (layer_of word (suc k) (relation_of x))
        → ((z : Atom) → IsAmong (positive z) r.rule.body → own (relation_of z) ≡ true → IsDerivable rules S J H (atom_under r.map z))
        → IsDerivable rules S J H x
    derived_again k x r below owns = derivable rules S J H x (record {
      rule = r.rule;
      map = r.map;
      is_rule = r.is_rule;
      maps_to_ground = r.maps_to_ground;
      heads = r.heads;
      fits = λ l in_body. one l in_body;
    })
      where
        one : (l : Literal) → IsAmong l r.rule.body → IsRightOver S J H (IsDerivable rules S J H) (literal_under r.map l)
        one (negative z) in_body = r.fits (negative z) in_body
        one (positive z) in_body = go (own (relation_of z)) refl
          where
            go : (b : Bool) → own (relation_of z) ≡ b → IsRightOver S J H (IsDerivable rules S J H) (positive (atom_under r.map z))
            go false o = outer k x r below z in_body o
            go true o =
                let own_y = ap own (relation-under r.map z) ∙ o in
                let plain = plain_source (atom_under r.map z) (is.plain (relation_of (atom_under r.map z)) own_y) in
                subst (λ (s : Source). RightAs S J (IsDerivable rules S J H (atom_under r.map z)) s) (sym plain) (owns z in_body o)

    -- what a rule carries into a layer holds in the one before
    carried : (k : ℕ) → 1 ≤ k → k < n → (x : Atom) → own (relation_of x) ≡ true → (d : IsDerived out (IsRight S J (Holds out S J)) (named word (suc k) x))
        → IsCarrying word k (relation_of x) d.rule
        → H (named word k x) × DependsDirectly out (layer_of word (suc k) (relation_of x)) (layer_of word k (relation_of x))
    carried k low lt x is_own d c = (holds, direct)
      where
        plain : (is_moving (layer_of word k (relation_of x)) ≡ false) × (is_distinct (layer_of word k (relation_of x)) ≡ false)
        plain = is.plain_layers k low (omega (arith, lt)) (relation_of x) is_own

        holds : H (named word k x)
        holds = subst (λ (s : Source). RightAs S J (H (named word k x)) s) (plain_source (named word k x) plain)
            (carried_fits rules out own word n (IsRight S J (Holds out S J)) k x d c)

        direct : DependsDirectly out (layer_of word (suc k) (relation_of x)) (layer_of word k (relation_of x))
        direct = record {
          rule = d.rule;
          literal = positive (named word k c.0);
          is_rule = d.is_rule;
          heads = sym (relation-under d.map d.rule.head) ∙ ap relation_of d.heads;
          in_body = subst (λ (b : List Literal). IsAmong (positive (named word k c.0)) b) (sym c.3) (inl refl);
          names = ap (λ (p : Relation). layer_of word k p) c.1;
          not_distinct = plain.1;
        }

    -- what holds in a layer is derivable
    layer_derivable : (k : ℕ) → k < n → (x : Atom) → own (relation_of x) ≡ true → H (named word (suc k) x)
        → Below (layer_of word (suc k) (relation_of x)) → IsDerivable rules S J H x
    layer_derivable zero lt x is_own h below =
        let d = (law (named word 1 x)).0 h in go d (read_stacked rules out own word n is (IsRight S J (Holds out S J)) zero lt x is_own d)
      where
        none : (r : Read zero x) → ((zero ≡ 0) × IsFirst own r.rule) ⊎ ((1 ≤ zero) × IsInner own r.rule) → (z : Atom)
            → IsAmong (positive z) r.rule.body → own (relation_of z) ≡ true → ⊥
        none r (inl first) z in_body o = let other = first.1 z in_body in let bad : ⊥ = cc in bad
        none r (inr step) z in_body o = let low = step.0 in omega arith

        go : (d : IsDerived out (IsRight S J (Holds out S J)) (named word 1 x))
            → Read zero x ⊎ ((1 ≤ zero) × IsCarrying word zero (relation_of x) d.rule) → IsDerivable rules S J H x
        go d (inl r) = derived_again zero x r below (λ z in_body o. absurd (none r r.kind z in_body o))
        go d (inr c) = let low = c.0 in absurd (omega arith)
    layer_derivable (suc k) lt x is_own h below =
        let d = (law (named word (suc (suc k)) x)).0 h in
        go (λ y o holds lower. layer_derivable k (omega (arith, lt)) y o holds lower) d
        (read_stacked rules out own word n is (IsRight S J (Holds out S J)) (suc k) lt x is_own d)
      where
        go : ((y : Atom) → own (relation_of y) ≡ true → H (named word (suc k) y) → Below (layer_of word (suc k) (relation_of y)) → IsDerivable rules S J H y)
            → (d : IsDerived out (IsRight S J (Holds out S J)) (named word (suc (suc k)) x))
            → Read (suc k) x ⊎ ((1 ≤ suc k) × IsCarrying word (suc k) (relation_of x) d.rule) → IsDerivable rules S J H x
        go lower d (inl r) = derived_again (suc k) x r below (λ z in_body o.
            let i = inner k lt x r z in_body o in
            lower (atom_under r.map z) (ap own (relation-under r.map z) ∙ o) i.0
            (below_later (layer_of word (suc (suc k)) (relation_of x)) (layer_of word (suc k) (relation_of (atom_under r.map z))) i.1 below))
        go lower d (inr c) =
            let i = carried (suc k) c.0 lt x is_own d c.1 in
            lower x is_own i.0 (below_later (layer_of word (suc (suc k)) (relation_of x)) (layer_of word (suc k) (relation_of x)) i.1 below)

    -- so is an own atom that holds
    pub own_derivable : (x : Atom) → own (relation_of x) ≡ true → Holds out S J x → Below (relation_of x) → IsDerivable rules S J (Holds out S J) x
    own_derivable x is_own h below = by_rule ((law x).0 h)
      where
        by_rule : IsDerived out (IsRight S J H) x → IsDerivable rules S J H x
        by_rule d =
            let t = is.only_top d.rule d.is_rule (ap own same ∙ is_own) in by_layer t.0 t.1 t.2 t.3
          where
            same : relation_of d.rule.head ≡ relation_of x
            same = sym (relation-under d.map d.rule.head) ∙ ap relation_of d.heads

            by_layer : (k : ℕ) → 1 ≤ k → k ≤ n → d.rule.body ≡ positive (named word k d.rule.head) ∷ [] → IsDerivable rules S J H x
            by_layer zero low high body = absurd (omega (arith, low))
            by_layer (suc k) low high body =
                let among : IsAmong (positive (named word (suc k) d.rule.head)) d.rule.body =
                subst (λ (b : List Literal). IsAmong (positive (named word (suc k) d.rule.head)) b) (sym body) (inl refl) in
                let right : IsRight S J H (positive (named word (suc k) x)) =
                subst (λ (z : Atom). IsRight S J H (positive z))
                (named_under own word d.map (suc k) d.rule.head ∙ ap (λ (z : Atom). named word (suc k) z) d.heads)
                (d.fits (positive (named word (suc k) d.rule.head)) among) in
                let plain = is.plain_layers (suc k) low high (relation_of x) is_own in
                let holds : H (named word (suc k) x) =
                subst (λ (s : Source). RightAs S J (H (named word (suc k) x)) s) (plain_source (named word (suc k) x) plain) right in
                let direct : DependsDirectly out (relation_of x) (layer_of word (suc k) (relation_of x)) = record {
                  rule = d.rule;
                  literal = positive (named word (suc k) d.rule.head);
                  is_rule = d.is_rule;
                  heads = same;
                  in_body = among;
                  names = ap (λ (p : Relation). layer_of word (suc k) p) same;
                  not_distinct = plain.1;
                } in
                layer_derivable k (omega (arith, high)) x is_own holds
                (below_later (relation_of x) (layer_of word (suc k) (relation_of x)) direct below)
