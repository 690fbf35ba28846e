-- Rules with any number of own atoms: what one builds from atoms of which something is known, and what stands in the layers.
use Rattle.std.proofs.Common.{ℕ, zero, suc, ◌+◌, Bool, true, false, ◌≡◌, ◌<◌, ◌≤◌, ◌⊎◌, ◌↔◌, inl, inr, List, [], ◌∷◌, refl, sym, ap, subst, ◌∙◌, arith}
use Rattle.statement.specs.Clause.{Atom, Literal, positive, negative, Alternative, Relation, relation_of}
use Rattle.statement.specs.Dependence.{IsAmong}
use Rattle.statement.specs.Substitution.{Map, IsGroundMap, atom_under, literal_under}
use Rattle.statement.specs.Meaning.{ordinary, source_of, IsDerived}
use Rattle.meaning.proofs.Facts.{among_map_out}
use Rattle.meaning.specs.Layers.{named, layered_literal, layered, IsFirst}
use Rattle.meaning.specs.Stacks.{IsInner, IsCarrying, IsStacked}
use Rattle.meaning.proofs.Reading.{plain_source, named_under, head_there, is_inner, outer_same, inner_same, first_outer, own_head, own_under, IsRead, read_stacked, carried_fits, first_not_inner}

-- a rule derives the atom, where `Inner` is known of the own atoms that it rests on, and the others are there
pub record IsBuilt (rules : List Alternative) (own : Relation → Bool) (Fit : Literal → Type 0) (Inner : Atom → Type 0) (x : Atom) : Type 0 where
  pub rule : Alternative
  pub map : Map
  pub is_rule : IsAmong rule rules
  pub maps_to_ground : IsGroundMap map
  pub heads : atom_under map rule.head ≡ x
  pub kind : IsFirst own rule ⊎ IsInner own rule
  pub fits : (l : Literal) → IsAmong l rule.body → is_inner own l ≡ false → Fit (literal_under map l)
  pub inners : (z : Atom) → IsAmong (positive z) rule.body → own (relation_of z) ≡ true → Inner (atom_under map z)

module _ (rules : List Alternative) (own : Relation → Bool) (Fit : Literal → Type 0) where
  -- what a rule derives is built, where something is known of its own atoms
  abbrev pub built_by : (G : Atom → Type 0) (x : Atom) (d : IsDerived rules Fit x) → IsFirst own d.rule ⊎ IsInner own d.rule
      → ((z : Atom) → IsAmong (positive z) d.rule.body → own (relation_of z) ≡ true → G (atom_under d.map z)) → IsBuilt rules own Fit G x
  built_by G x d kind known = record {
    rule = d.rule;
    map = d.map;
    is_rule = d.is_rule;
    maps_to_ground = d.maps_to_ground;
    heads = d.heads;
    kind = kind;
    fits = λ l in_body o. d.fits l in_body;
    inners = known;
  }

  -- what follows is known too
  abbrev pub built_map : (F G : Atom → Type 0) → ((y : Atom) → F y → G y) → (x : Atom) → IsBuilt rules own Fit F x → IsBuilt rules own Fit G x
  built_map F G more x b = record {
    rule = b.rule;
    map = b.map;
    is_rule = b.is_rule;
    maps_to_ground = b.maps_to_ground;
    heads = b.heads;
    kind = b.kind;
    fits = b.fits;
    inners = λ z in_body o. more (atom_under b.map z) (b.inners z in_body o);
  }

  -- something is known of an own atom that is the literal
  abbrev IsKnownAt : (Atom → Type 0) → Map → Literal → Type 0
  IsKnownAt G m k = (z : Atom) → positive z ≡ k → own (relation_of z) ≡ true → G (atom_under m z)

  -- one thing is known of each own atom of a body, or another of one
  all_or : (F G : Atom → Type 0) (C : Type 0) → ((y : Atom) → F y → G y ⊎ C) → (m : Map) (ls : List Literal)
      → ((z : Atom) → IsAmong (positive z) ls → own (relation_of z) ≡ true → F (atom_under m z))
      → ((z : Atom) → IsAmong (positive z) ls → own (relation_of z) ≡ true → G (atom_under m z)) ⊎ C
  all_or F G C choose m [] known = inl (λ z none o. absurd none)
  all_or F G C choose m (l ∷ ls) known =
      go (one l (λ z e o. known z (inl e) o)) (all_or F G C choose m ls (λ z among o. known z (inr among) o))
    where
      one : (k : Literal) → IsKnownAt F m k → IsKnownAt G m k ⊎ C
      one (negative y) f = inl (λ z e o. absurd (let bad : ⊥ = cc in bad))
      one (positive y) f = by_own (own (relation_of y)) refl
        where
          from : G (atom_under m y) ⊎ C → IsKnownAt G m (positive y) ⊎ C
          from (inl g) = inl (λ z e o. let same : z ≡ y = cc in subst (λ (q : Atom). G (atom_under m q)) (sym same) g)
          from (inr c) = inr c

          by_own : (b : Bool) → own (relation_of y) ≡ b → IsKnownAt G m (positive y) ⊎ C
          by_own true o = from (choose (atom_under m y) (f y refl o))
          by_own false o = inl (λ z e p. let same : z ≡ y = cc in
              let q = ap (λ (w : Atom). own (relation_of w)) same in absurd (let bad : ⊥ = cc in bad))

      go : IsKnownAt G m l ⊎ C → ((z : Atom) → IsAmong (positive z) ls → own (relation_of z) ≡ true → G (atom_under m z)) ⊎ C
          → ((z : Atom) → IsAmong (positive z) (l ∷ ls) → own (relation_of z) ≡ true → G (atom_under m z)) ⊎ C
      go (inr c) rest = inr c
      go (inl a) (inr c) = inr c
      go (inl a) (inl rest) = inl (λ z among o. pick z among o)
        where
          pick : (z : Atom) → IsAmong (positive z) (l ∷ ls) → own (relation_of z) ≡ true → G (atom_under m z)
          pick z (inl e) o = a z e o
          pick z (inr among) o = rest z among o

  pub built_or : (F G : Atom → Type 0) (C : Type 0) → ((y : Atom) → F y → G y ⊎ C) → (x : Atom) → IsBuilt rules own Fit F x
      → IsBuilt rules own Fit G x ⊎ C
  built_or F G C choose x b = go (all_or F G C choose b.map b.rule.body b.inners)
    where
      go : ((z : Atom) → IsAmong (positive z) b.rule.body → own (relation_of z) ≡ true → G (atom_under b.map z)) ⊎ C → IsBuilt rules own Fit G x ⊎ C
      go (inr c) = inr c
      go (inl all) = inl (record {
        rule = b.rule;
        map = b.map;
        is_rule = b.is_rule;
        maps_to_ground = b.maps_to_ground;
        heads = b.heads;
        kind = b.kind;
        fits = b.fits;
        inners = all;
      })

module _ (rules out : List Alternative) (own : Relation → Bool) (word : ℕ → Relation → List ℕ) (n : ℕ) (is : IsStacked rules out own word n)
    (Val : Atom → Type 0) (Fit : Literal → Type 0) (law : (x : Atom) → Val x ↔ IsDerived out Fit x)
    (plain_fit : (y : Atom) → source_of y ≡ ordinary → Fit (positive y) ↔ Val y)
  where
    abbrev Built : (Atom → Type 0) → Atom → Type 0
    Built F x = IsBuilt rules own Fit F x

    -- a named own atom fits where it is there
    stacked_fit : (k : ℕ) → 1 ≤ k → k ≤ n → (y : Atom) → own (relation_of y) ≡ true → Fit (positive (named word k y)) ↔ Val (named word k y)
    stacked_fit k low high y is_own = plain_fit (named word k y) (plain_source (named word k y) (is.plain_layers k low high (relation_of y) is_own))

    -- the first layer has what a rule without own atoms derives
    pub built_first : (F : Atom → Type 0) (x : Atom) → own (relation_of x) ≡ true → (b : Built F x) → IsFirst own b.rule → Val (named word 1 x)
    built_first F x is_own b first = (law (named word 1 x)).1 (record {
      rule = layered own word 0 b.rule;
      map = b.map;
      is_rule = is.first b.rule b.is_rule (own_head own word b.rule b.map x b.heads is_own) first;
      maps_to_ground = b.maps_to_ground;
      heads = head_there own word b.map 1 b.rule.head x b.heads;
      fits = λ l among. one l (among_map_out (layered_literal own word 0) l b.rule.body among);
    })
      where
        one : (l : Literal) → (z : Literal) × IsAmong z b.rule.body × (l ≡ layered_literal own word 0 z) → Fit (literal_under b.map l)
        one l o =
            let outer = first_outer own word b.rule first o.0 o.1 in
            subst (λ (q : Literal). Fit (literal_under b.map q)) (sym (o.2 ∙ outer_same own word 0 o.0 outer)) (b.fits o.0 o.1 outer)

    -- what an own atom is, and where it stands
    abbrev pub IsThere : ℕ → Atom → Type 0
    IsThere k y = (own (relation_of y) ≡ true) × Val (named word k y)

    -- each layer behind it has what a rule derives whose own atoms stand in the one before
    pub next_fits : (k : ℕ) → 1 ≤ k → k ≤ n → (x : Atom) (b : Built (λ y. IsThere k y) x) (l : Literal)
        → IsAmong l (layered own word k b.rule).body → Fit (literal_under b.map l)
    next_fits k low high x b l among =
        let o = among_map_out (layered_literal own word k) l b.rule.body among in
        subst (λ (q : Literal). Fit (literal_under b.map q)) (sym o.2) (one o.0 o.1)
      where
        inner : (z : Atom) → IsAmong (positive z) b.rule.body → own (relation_of z) ≡ true
            → Fit (literal_under b.map (layered_literal own word k (positive z)))
        inner z in_body o =
            let v = b.inners z in_body o in
            subst (λ (q : Literal). Fit (literal_under b.map q)) (sym (inner_same own word k z o))
            (subst (λ (q : Atom). Fit (positive q)) (sym (named_under own word b.map k z))
            ((stacked_fit k low high (atom_under b.map z) v.0).1 v.1))

        outer : (z : Literal) → IsAmong z b.rule.body → is_inner own z ≡ false → Fit (literal_under b.map (layered_literal own word k z))
        outer z in_body o = subst (λ (q : Literal). Fit (literal_under b.map q)) (sym (outer_same own word k z o)) (b.fits z in_body o)

        one : (z : Literal) → IsAmong z b.rule.body → Fit (literal_under b.map (layered_literal own word k z))
        one (negative z) in_body = outer (negative z) in_body refl
        one (positive z) in_body = go (own (relation_of z)) refl
          where
            go : (t : Bool) → own (relation_of z) ≡ t → Fit (literal_under b.map (layered_literal own word k (positive z)))
            go true o = inner z in_body o
            go false o = outer (positive z) in_body o

    abbrev pub built_next : (k : ℕ) → 1 ≤ k → k < n → (x : Atom) → own (relation_of x) ≡ true → (b : Built (λ y. IsThere k y) x)
        → IsInner own b.rule → IsDerived out Fit (named word (suc k) x)
    built_next k low high x is_own b inner = record {
      rule = layered own word k b.rule;
      map = b.map;
      is_rule = is.next k low high b.rule b.is_rule (own_head own word b.rule b.map x b.heads is_own) inner;
      maps_to_ground = b.maps_to_ground;
      heads = head_there own word b.map (suc k) b.rule.head x b.heads;
      fits = next_fits k low (omega (arith, high)) x b;
    }

    -- what stands in a layer is built from what stands in the one before, or stands there itself
    pub built_back : (k : ℕ) → k < n → (x : Atom) → own (relation_of x) ≡ true → Val (named word (suc k) x)
        → Built (λ y. (1 ≤ k) × IsThere k y) x ⊎ ((1 ≤ k) × Val (named word k x))
    built_back k lt x is_own v =
        let d = (law (named word (suc k) x)).0 v in go d (read_stacked rules out own word n is Fit k lt x is_own d)
      where
        kind_of : (r : IsRead rules out own word (IsInner own) Fit k x) → ((k ≡ 0) × IsFirst own r.rule) ⊎ ((1 ≤ k) × IsInner own r.rule)
            → IsFirst own r.rule ⊎ IsInner own r.rule
        kind_of r (inl a) = inl a.1
        kind_of r (inr a) = inr a.1

        inner : (r : IsRead rules out own word (IsInner own) Fit k x) → ((k ≡ 0) × IsFirst own r.rule) ⊎ ((1 ≤ k) × IsInner own r.rule)
            → (z : Atom) → IsAmong (positive z) r.rule.body → own (relation_of z) ≡ true → (1 ≤ k) × IsThere k (atom_under r.map z)
        inner r (inl a) z in_body o = absurd (first_not_inner rules out own word n r.rule a.1 (z, in_body, o))
        inner r (inr a) z in_body o =
            let own_y = own_under own word r.map z o in
            let fit : Fit (positive (named word k (atom_under r.map z))) =
            subst (λ (q : Atom). Fit (positive q)) (named_under own word r.map k z)
            (subst (λ (q : Literal). Fit (literal_under r.map q)) (inner_same own word k z o) (r.fits (positive z) in_body)) in
            (a.0, (own_y, (stacked_fit k a.0 (omega (arith, lt)) (atom_under r.map z) own_y).0 fit))

        go : (d : IsDerived out Fit (named word (suc k) x))
            → IsRead rules out own word (IsInner own) Fit k x ⊎ ((1 ≤ k) × IsCarrying word k (relation_of x) d.rule)
            → Built (λ y. (1 ≤ k) × IsThere k y) x ⊎ ((1 ≤ k) × Val (named word k x))
        go d (inl r) = inl (record {
          rule = r.rule;
          map = r.map;
          is_rule = r.is_rule;
          maps_to_ground = r.maps_to_ground;
          heads = r.heads;
          kind = kind_of r r.kind;
          fits = λ l in_body o. subst (λ (q : Literal). Fit (literal_under r.map q)) (outer_same own word k l o) (r.fits l in_body);
          inners = λ z in_body o. inner r r.kind z in_body o;
        })
        go d (inr c) = inr (c.0, (stacked_fit k c.0 (omega (arith, lt)) x is_own).0 (carried_fits rules out own word n Fit k x d c.1))

    -- an own atom that is there stands in a layer
    pub top_back : (x : Atom) → own (relation_of x) ≡ true → Val x → (k : ℕ) × (1 ≤ k) × (k ≤ n) × Val (named word k x)
    top_back x is_own v =
        let d = (law x).0 v in
        let t = is.only_top d.rule d.is_rule (own_head own word d.rule d.map x d.heads is_own) in (
          t.0,
          t.1,
          t.2,
          (stacked_fit t.0 t.1 t.2 x is_own).0 (
              subst (λ (z : Atom). Fit (positive z)) (named_under own word d.map t.0 d.rule.head ∙ ap (λ (z : Atom). named word t.0 z) d.heads)
              (d.fits (positive (named word t.0 d.rule.head))
              (subst (λ (b : List Literal). IsAmong (positive (named word t.0 d.rule.head)) b) (sym t.3) (inl refl)))),
        )

    -- where each layer keeps the one before, it keeps all
    pub rise : (top : ℕ) → top < n → ((k : ℕ) → 1 ≤ k → k ≤ top → (x : Atom) → own (relation_of x) ≡ true → Val (named word k x) → Val (named word (suc k) x))
        → (x : Atom) → own (relation_of x) ≡ true → (d k j : ℕ) → d + k ≡ j → 1 ≤ k → j ≤ suc top → Val (named word k x) → Val (named word j x)
    rise top lt carry x is_own zero k j e low high v = subst (λ (i : ℕ). Val (named word i x)) (let same : k ≡ j = omega (arith, e) in same) v
    rise top lt carry x is_own (suc d) k j e low high v =
        subst (λ (i : ℕ). Val (named word i x)) (let same : suc (d + k) ≡ j = omega (arith, e) in same)
        (carry (d + k) (omega (arith, low)) (omega (arith, e, high)) x is_own
        (rise top lt carry x is_own d k (d + k) refl low (omega (arith, e, high)) v))
