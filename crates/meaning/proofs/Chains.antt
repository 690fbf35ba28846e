-- Chains of atoms that rules derive one from the other, and what stands in the layers: a chain of so many atoms leads into that layer, and an
-- atom in a layer has such a chain.
use Rattle.std.proofs.Common.{ℕ, zero, suc, Bool, true, false, ◌≡◌, ◌<◌, ◌≤◌, ◌⊎◌, ◌↔◌, inl, inr, List, [], ◌∷◌, length, refl, sym, ap, subst, ◌∙◌, arith}
use Rattle.statement.specs.Clause.{Atom, Literal, positive, negative, Alternative, Relation, relation_of}
use Rattle.statement.specs.Dependence.{IsAmong}
use Rattle.statement.specs.Substitution.{Map, IsGroundMap, atom_under, literal_under}
use Rattle.statement.specs.Meaning.{ordinary, source_of, IsDerived}
use Rattle.statement.specs.Listing.{is_atom_in}
use Rattle.meaning.specs.InOrder.{AreDistinct}
use Rattle.meaning.proofs.Facts.{relation-under, among_map_out, is_atom_yes, is_atom_in_yes}
use Rattle.meaning.specs.Layers.{named, layered_literal, layered, IsFirst, IsStep, IsLayered}
use Rattle.meaning.proofs.Reading.{plain_source, named_under, head_there, is_inner, outer_same, inner_same, first_outer, own_head, IsRead, read_layered}

-- a rule without own atoms derives the atom
pub record IsBegun (rules : List Alternative) (own : Relation → Bool) (Fit : Literal → Type 0) (x : Atom) : Type 0 where
  pub rule : Alternative
  pub map : Map
  pub is_rule : IsAmong rule rules
  pub maps_to_ground : IsGroundMap map
  pub heads : atom_under map rule.head ≡ x
  pub first : IsFirst own rule
  pub fits : (l : Literal) → IsAmong l rule.body → Fit (literal_under map l)

-- a rule with one own atom derives the second atom from the first, if this is there
pub record IsLed (rules : List Alternative) (own : Relation → Bool) (Fit : Literal → Type 0) (y x : Atom) : Type 0 where
  pub rule : Alternative
  pub map : Map
  pub is_rule : IsAmong rule rules
  pub maps_to_ground : IsGroundMap map
  pub heads : atom_under map rule.head ≡ x
  pub step : IsStep own rule
  pub names : atom_under map step.0 ≡ y
  pub fits : (l : Literal) → IsAmong l rule.body → is_inner own l ≡ false → Fit (literal_under map l)

-- a chain to an own atom through others, the last of them first
abbrev pub IsChain : List Alternative → (Relation → Bool) → (Literal → Type 0) → List Atom → Atom → Type 0
IsChain rules own Fit [] x = (own (relation_of x) ≡ true) × IsBegun rules own Fit x
IsChain rules own Fit (y ∷ ys) x = (own (relation_of x) ≡ true) × IsLed rules own Fit y x × IsChain rules own Fit ys y

module _ (rules : List Alternative) (own : Relation → Bool) (Fit : Literal → Type 0) where
  abbrev Chain : List Atom → Atom → Type 0
  Chain ys x = IsChain rules own Fit ys x

  pub chain_own : (ys : List Atom) (x : Atom) → Chain ys x → own (relation_of x) ≡ true
  chain_own [] x c = c.0
  chain_own (y ∷ ys) x c = c.0

  -- an atom that a chain passes has a shorter one
  cut_there : (ys : List Atom) (y z : Atom) → Chain ys y → IsAmong z ys → (zs : List Atom) × (length zs < length ys) × Chain zs z
  cut_there [] y z c a = absurd a
  cut_there (w ∷ ws) y z c (inl e) = (ws, omega arith, subst (λ (q : Atom). Chain ws q) (sym e) c.2)
  cut_there (w ∷ ws) y z c (inr a) = let s = cut_there ws w z c.2 a in let less = s.1 in (s.0, omega arith, s.2)

  -- the atoms of a chain differ, or there is a shorter one to the same atom
  pub distinct_or_shorter : (ys : List Atom) (y : Atom) → Chain ys y
      → AreDistinct (y ∷ ys) ⊎ ((zs : List Atom) × (length zs < length ys) × Chain zs y)
  distinct_or_shorter [] y c = inl ((λ z none. absurd none), tt)
  distinct_or_shorter (w ∷ ws) y c = go (distinct_or_shorter ws w c.2) (is_atom_in y (w ∷ ws)) refl
    where
      go : AreDistinct (w ∷ ws) ⊎ ((zs : List Atom) × (length zs < length ws) × Chain zs w) → (b : Bool) → is_atom_in y (w ∷ ws) ≡ b
          → AreDistinct (y ∷ (w ∷ ws)) ⊎ ((zs : List Atom) × (length zs < length (w ∷ ws)) × Chain zs y)
      go (inr s) b e = let less = s.1 in inr (w ∷ s.0, omega arith, (c.0, c.1, s.2))
      go (inl differ) true e = inr (cut_there (w ∷ ws) y y c (is_atom_yes y (w ∷ ws) e))
      go (inl differ) false e = inl ((λ z among same. never z among same), differ)
        where
          never : (z : Atom) → IsAmong z (w ∷ ws) → y ≡ z → ⊥
          never z among same =
              let found = is_atom_in_yes y (w ∷ ws) (subst (λ (q : Atom). IsAmong q (w ∷ ws)) (sym same) among) in
              let bad : ⊥ = cc in bad

module _ (rules out : List Alternative) (own : Relation → Bool) (word : ℕ → Relation → List ℕ) (n : ℕ) (is : IsLayered rules out own word n)
    (Val : Atom → Type 0) (Fit : Literal → Type 0) (law : (x : Atom) → Val x ↔ IsDerived out Fit x)
    (plain_fit : (y : Atom) → source_of y ≡ ordinary → Fit (positive y) ↔ Val y)
  where
    -- a named own atom fits where it is there
    pub named_fit : (k : ℕ) → 1 ≤ k → k ≤ n → (y : Atom) → own (relation_of y) ≡ true → Fit (positive (named word k y)) ↔ Val (named word k y)
    named_fit k low high y is_own = plain_fit (named word k y) (plain_source (named word k y) (is.plain_layers k low high (relation_of y) is_own))

    -- the first layer has what a rule without own atoms derives
    pub begun_fits : (x : Atom) (b : IsBegun rules own Fit x) (l : Literal) → IsAmong l (layered own word 0 b.rule).body → Fit (literal_under b.map l)
    begun_fits x b l among =
        let o = among_map_out (layered_literal own word 0) l b.rule.body among in
        let e = o.2 ∙ outer_same own word 0 o.0 (first_outer own word b.rule b.first o.0 o.1) in
        subst (λ (q : Literal). Fit (literal_under b.map q)) (sym e) (b.fits o.0 o.1)

    abbrev pub begun : (x : Atom) → own (relation_of x) ≡ true → IsBegun rules own Fit x → IsDerived out Fit (named word 1 x)
    begun x is_own b = record {
      rule = layered own word 0 b.rule;
      map = b.map;
      is_rule = is.first b.rule b.is_rule (own_head own word b.rule b.map x b.heads is_own) b.first;
      maps_to_ground = b.maps_to_ground;
      heads = head_there own word b.map 1 b.rule.head x b.heads;
      fits = begun_fits x b;
    }

    -- each layer behind it has what a rule with an own atom derives from the one before
    pub led_fits : (k : ℕ) → 1 ≤ k → k ≤ n → (y x : Atom) → own (relation_of y) ≡ true → Val (named word k y) → (b : IsLed rules own Fit y x) (l : Literal)
        → IsAmong l (layered own word k b.rule).body → Fit (literal_under b.map l)
    led_fits k low high y x is_own v b l among =
        let o = among_map_out (layered_literal own word k) l b.rule.body among in
        subst (λ (q : Literal). Fit (literal_under b.map q)) (sym o.2) (one o.0 o.1)
      where
        inner : (z : Atom) → own (relation_of z) ≡ true → z ≡ b.step.0 → Fit (literal_under b.map (layered_literal own word k (positive z)))
        inner z o same =
            let e = named_under own word b.map k z ∙ ap (λ (q : Atom). named word k q) (ap (λ (q : Atom). atom_under b.map q) same ∙ b.names) in
            subst (λ (q : Literal). Fit (literal_under b.map q)) (sym (inner_same own word k z o))
            (subst (λ (q : Atom). Fit (positive q)) (sym e) ((named_fit k low high y is_own).1 v))

        outer : (z : Literal) → IsAmong z b.rule.body → is_inner own z ≡ false → Fit (literal_under b.map (layered_literal own word k z))
        outer z in_body o = subst (λ (q : Literal). Fit (literal_under b.map q)) (sym (outer_same own word k z o)) (b.fits z in_body o)

        one : (z : Literal) → IsAmong z b.rule.body → Fit (literal_under b.map (layered_literal own word k z))
        one (negative z) in_body = outer (negative z) in_body refl
        one (positive z) in_body = go (own (relation_of z)) refl
          where
            go : (t : Bool) → own (relation_of z) ≡ t → Fit (literal_under b.map (layered_literal own word k (positive z)))
            go true o = inner z o (b.step.3 z in_body o)
            go false o = outer (positive z) in_body o

    abbrev pub led : (k : ℕ) → 1 ≤ k → k < n → (y x : Atom) → own (relation_of y) ≡ true → own (relation_of x) ≡ true → Val (named word k y)
        → IsLed rules own Fit y x → IsDerived out Fit (named word (suc k) x)
    led k low high y x own_y own_x v b = record {
      rule = layered own word k b.rule;
      map = b.map;
      is_rule = is.next k low high b.rule b.is_rule (own_head own word b.rule b.map x b.heads own_x) b.step;
      maps_to_ground = b.maps_to_ground;
      heads = head_there own word b.map (suc k) b.rule.head x b.heads;
      fits = led_fits k low (omega (arith, high)) y x own_y v b;
    }

    -- a chain leads into the layer of its length
    pub chain_there : (ys : List Atom) (x : Atom) → IsChain rules own Fit ys x → length ys < n → Val (named word (suc (length ys)) x)
    chain_there [] x c short = (law (named word 1 x)).1 (begun x c.0 c.1)
    chain_there (y ∷ ys) x c short =
        (law (named word (suc (suc (length ys))) x)).1
        (led (suc (length ys)) (omega arith) (omega (arith, short)) y x (chain_own rules own Fit ys y c.2) c.0
        (chain_there ys y c.2 (omega (arith, short))) c.1)

    -- what stands in a layer has a chain of that length
    pub chain_back : (k : ℕ) → k < n → (x : Atom) → own (relation_of x) ≡ true → Val (named word (suc k) x)
        → (ys : List Atom) × (length ys ≡ k) × IsChain rules own Fit ys x
    chain_back zero below x is_own v =
        let r = read_layered rules out own word n is Fit zero below x is_own ((law (named word 1 x)).0 v) in go r r.kind
      where
        go : (r : IsRead rules out own word (IsStep own) Fit zero x) → ((zero ≡ 0) × IsFirst own r.rule) ⊎ ((1 ≤ zero) × IsStep own r.rule)
            → (ys : List Atom) × (length ys ≡ zero) × IsChain rules own Fit ys x
        go r (inr k) = let low = k.0 in absurd (omega arith)
        go r (inl k) = (
          [],
          refl,
          (
            is_own,
            record {
              rule = r.rule;
              map = r.map;
              is_rule = r.is_rule;
              maps_to_ground = r.maps_to_ground;
              heads = r.heads;
              first = k.1;
              fits = λ l in_body. subst (λ (q : Literal). Fit (literal_under r.map q))
                  (outer_same own word 0 l (first_outer own word r.rule k.1 l in_body)) (r.fits l in_body);
            },
          ),
        )
    chain_back (suc k) below x is_own v =
        let r = read_layered rules out own word n is Fit (suc k) below x is_own ((law (named word (suc (suc k)) x)).0 v) in
        go (λ y o there. chain_back k (omega (arith, below)) y o there) r r.kind
      where
        go : ((y : Atom) → own (relation_of y) ≡ true → Val (named word (suc k) y) → (ys : List Atom) × (length ys ≡ k) × IsChain rules own Fit ys y)
            → (r : IsRead rules out own word (IsStep own) Fit (suc k) x) → ((suc k ≡ 0) × IsFirst own r.rule) ⊎ ((1 ≤ suc k) × IsStep own r.rule)
            → (ys : List Atom) × (length ys ≡ suc k) × IsChain rules own Fit ys x
        go back r (inl none) = let e = none.0 in absurd (omega arith)
        go back r (inr s) =
            let own_y : own (relation_of (atom_under r.map s.1.0)) ≡ true = ap own (relation-under r.map s.1.0) ∙ s.1.2 in
            let fit : Fit (positive (named word (suc k) (atom_under r.map s.1.0))) =
            subst (λ (q : Atom). Fit (positive q)) (named_under own word r.map (suc k) s.1.0)
            (subst (λ (q : Literal). Fit (literal_under r.map q)) (inner_same own word (suc k) s.1.0 s.1.2) (r.fits (positive s.1.0) s.1.1)) in
            let rest = back (atom_under r.map s.1.0) own_y
            ((named_fit (suc k) (omega arith) (omega (arith, below)) (atom_under r.map s.1.0) own_y).0 fit) in (
              atom_under r.map s.1.0 ∷ rest.0,
              ap suc rest.1,
              (
                is_own,
                record {
                  rule = r.rule;
                  map = r.map;
                  is_rule = r.is_rule;
                  maps_to_ground = r.maps_to_ground;
                  heads = r.heads;
                  step = s.1;
                  names = refl;
                  fits = λ l in_body o. subst (λ (q : Literal). Fit (literal_under r.map q)) (outer_same own word (suc k) l o) (r.fits l in_body);
                },
                rest.2,
              ),
            )
