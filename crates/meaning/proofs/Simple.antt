-- What the rules of own relations derive from what is there is there, where the last layer has no more than the one before it: a derivation in
-- which no atom stands below itself is as low as the paths through different atoms are short.
use Rattle.std.proofs.Common.{ℕ, zero, suc, ◌+◌, ◌-◌, Bool, true, false, ◌≡◌, ◌<◌, ◌≤◌, ◌⊎◌, ◌↔◌, inl, inr, List, [], ◌∷◌, length, map, refl, sym, ap, subst, ◌∙◌, arith}
use Rattle.statement.specs.Clause.{Atom, Literal, positive, Alternative, Relation, relation_of}
use Rattle.statement.specs.Dependence.{IsAmong}
use Rattle.statement.specs.Substitution.{atom_under, literal_under}
use Rattle.statement.specs.Meaning.{ordinary, source_of, IsDerived}
use Rattle.statement.specs.Listing.{Instance, listing, is_atom_in}
use Rattle.meaning.specs.Kept.{HeadsKept}
use Rattle.meaning.specs.InOrder.{AreDistinct}
use Rattle.meaning.proofs.Facts.{among_map_in, is_atom_yes, is_atom_in_yes}
use Rattle.meaning.specs.Layers.{named, layered, layered_literal, IsFirst, IsBrought}
use Rattle.meaning.specs.Stacks.{IsInner, IsStacked, IsPath}
use Rattle.meaning.proofs.Reading.{plain_source, named_under, inner_same, in_layered, own_head, own_under}
use Rattle.meaning.proofs.Built.{IsBuilt, built_map, built_or, built_by, built_first, built_next, built_back, top_back, rise}

module _ (rules : List Alternative) (own : Relation → Bool) (Fit : Literal → Type 0) (Known : Atom → Type 0) where
  -- a derivation of at most so many rules one above the other, where something is known of the own atoms that a rule rests on
  abbrev pub IsTall : ℕ → Atom → Type 0
  IsTall zero x = ⊥
  IsTall (suc h) x = (own (relation_of x) ≡ true) × IsBuilt rules own Fit (λ y. Known y × IsTall h y) x

  -- such a derivation in which no atom stands below itself, nor below those of the list
  abbrev pub IsSimple : ℕ → List Atom → Atom → Type 0
  IsSimple zero above x = ⊥
  IsSimple (suc h) above x =
      (IsAmong x above → ⊥) × ((own (relation_of x) ≡ true) × IsBuilt rules own Fit (λ y. Known y × IsSimple h (x ∷ above) y) x)

  -- some atom of the list has one below those behind it
  abbrev IsCut : ℕ → List Atom → Type 0
  IsCut h [] = ⊥
  IsCut h (a ∷ above) = IsSimple h above a ⊎ IsCut h above

  pub tall_more : (h : ℕ) (x : Atom) → IsTall h x → IsTall (suc h) x
  tall_more zero x t = absurd t
  tall_more (suc h) x t =
      (t.0, built_map rules own Fit (λ y. Known y × IsTall h y) (λ y. Known y × IsTall (suc h) y) (λ y s. (s.0, tall_more h y s.1)) x t.1)

  simple_more : (h : ℕ) (above : List Atom) (x : Atom) → IsSimple h above x → IsSimple (suc h) above x
  simple_more zero above x t = absurd t
  simple_more (suc h) above x t = (
    t.0,
    (
      t.1.0,
      built_map rules own Fit (λ y. Known y × IsSimple h (x ∷ above) y) (λ y. Known y × IsSimple (suc h) (x ∷ above) y)
          (λ y s. (s.0, simple_more h (x ∷ above) y s.1)) x t.1.1,
    ),
  )

  cut_more : (h : ℕ) (above : List Atom) → IsCut h above → IsCut (suc h) above
  cut_more h [] c = absurd c
  cut_more h (a ∷ above) (inl s) = inl (simple_more h above a s)
  cut_more h (a ∷ above) (inr c) = inr (cut_more h above c)

  -- a derivation is simple below the list, or has a part that is one of an atom of the list
  simple_or : (h : ℕ) (x : Atom) → IsTall h x → (above : List Atom) → IsSimple h above x ⊎ IsCut h above
  simple_or zero x t above = absurd t
  simple_or (suc h) x t above = by_list (λ y s zs. simple_or h y s zs) above
    where
      step : ((y : Atom) → IsTall h y → (zs : List Atom) → IsSimple h zs y ⊎ IsCut h zs) → (ys : List Atom) → (IsAmong x ys → ⊥) → IsSimple (suc h) ys x ⊎ IsCut (suc h) ys
      step rec ys never =
          go (built_or rules own Fit (λ y. Known y × IsTall h y) (λ y. Known y × IsSimple h (x ∷ ys) y) (IsCut h (x ∷ ys))
          (λ y s. keep y s.0 (rec y s.1 (x ∷ ys))) x t.1)
        where
          keep : (y : Atom) → Known y → IsSimple h (x ∷ ys) y ⊎ IsCut h (x ∷ ys) → (Known y × IsSimple h (x ∷ ys) y) ⊎ IsCut h (x ∷ ys)
          keep y k (inl s) = inl (k, s)
          keep y k (inr c) = inr c

          go : IsBuilt rules own Fit (λ y. Known y × IsSimple h (x ∷ ys) y) x ⊎ IsCut h (x ∷ ys) → IsSimple (suc h) ys x ⊎ IsCut (suc h) ys
          go (inl b) = inl (never, (t.0, b))
          go (inr (inl s)) = inl (simple_more h ys x s)
          go (inr (inr c)) = inr (cut_more h ys c)

      by_list : ((y : Atom) → IsTall h y → (zs : List Atom) → IsSimple h zs y ⊎ IsCut h zs) → (ys : List Atom) → IsSimple (suc h) ys x ⊎ IsCut (suc h) ys
      by_list rec [] = step rec [] (λ none. none)
      by_list rec (a ∷ ys) = by_test (is_atom_in x (a ∷ ys)) refl (by_list rec ys)
        where
          found : IsAmong x (a ∷ ys) → IsSimple (suc h) ys x ⊎ IsCut (suc h) ys → IsCut (suc h) (a ∷ ys)
          found (inl e) (inl s) = inl (subst (λ (q : Atom). IsSimple (suc h) ys q) e s)
          found (inr among) (inl s) = absurd (s.0 among)
          found among (inr c) = inr c

          by_test : (b : Bool) → is_atom_in x (a ∷ ys) ≡ b → IsSimple (suc h) ys x ⊎ IsCut (suc h) ys
              → IsSimple (suc h) (a ∷ ys) x ⊎ IsCut (suc h) (a ∷ ys)
          by_test true e rest = inr (found (is_atom_yes x (a ∷ ys) e) rest)
          by_test false e rest = step rec (a ∷ ys) (λ among. let yes = is_atom_in_yes x (a ∷ ys) among in let bad : ⊥ = cc in bad)

  -- each atom with a derivation has a simple one
  pub simple : (h : ℕ) (x : Atom) → IsTall h x → IsSimple h [] x
  simple h x t = go (simple_or h x t [])
    where
      go : IsSimple h [] x ⊎ IsCut h [] → IsSimple h [] x
      go (inl s) = s
      go (inr none) = absurd none

module _ (rules out : List Alternative) (own : Relation → Bool) (word : ℕ → Relation → List ℕ) (m : ℕ) (is : IsStacked rules out own word (suc m))
    (Val : Atom → Type 0) (Fit : Literal → Type 0) (law : (x : Atom) → Val x ↔ IsDerived out Fit x)
    (plain_fit : (y : Atom) → source_of y ≡ ordinary → Fit (positive y) ↔ Val y)
    (seen : (x : Atom) (d : IsDerived out Fit x)
    → (i : Instance) × IsAmong i (listing out).kept × (i.head ≡ x) × (i.body ≡ map (literal_under d.map) d.rule.body))
    (heads : (x : Atom) → Val x → HeadsKept out x)
    (top : (k : ℕ) → 1 ≤ k → k ≤ suc m → (x : Atom) → own (relation_of x) ≡ true → Val (named word k x) → Val x)
    (carry : (k : ℕ) → 1 ≤ k → k ≤ m → (x : Atom) → own (relation_of x) ≡ true → Val (named word k x) → Val (named word (suc k) x))
    (short : (ys : List Atom) (x : Atom) → IsPath out own word m ys x → AreDistinct (x ∷ ys) → suc (length ys) ≤ m)
  where
    -- the atom stands in the last layer but one
    abbrev Known : Atom → Type 0
    Known y = (own (relation_of y) ≡ true) × Val (named word m y)

    -- the atom stands in a layer, which is not before the first
    abbrev IsBefore : ℕ → Atom → Type 0
    IsBefore k y = (1 ≤ k) × ((own (relation_of y) ≡ true) × Val (named word k y))

    -- what stands in a layer stands in those behind it
    up : (x : Atom) → own (relation_of x) ≡ true → (k j : ℕ) → 1 ≤ k → k ≤ j → j ≤ suc m → Val (named word k x) → Val (named word j x)
    up x is_own k j low le high v =
        rise rules out own word (suc m) is Val Fit law plain_fit m (omega arith) carry x is_own (j - k) k j (omega (arith, le)) low high v

    -- what stands in a layer has a derivation of so many rules one above the other
    tall_there : (k : ℕ) → k < suc m → (x : Atom) → own (relation_of x) ≡ true → Val (named word (suc k) x) → IsTall rules own Fit Known (suc k) x
    tall_there zero lt x is_own v = go (built_back rules out own word (suc m) is Val Fit law plain_fit zero lt x is_own v)
      where
        go : IsBuilt rules own Fit (λ y. IsBefore zero y) x ⊎ ((1 ≤ zero) × Val (named word zero x))
            → IsTall rules own Fit Known 1 x
        go (inl b) = (
          is_own,
          built_map rules own Fit (λ y. IsBefore zero y) (λ y. Known y × ⊥)
              (λ y s. let low = s.0 in absurd (omega arith)) x b,
        )
        go (inr c) = let low = c.0 in absurd (omega arith)
    tall_there (suc k) lt x is_own v =
        go (λ y o w. tall_there k (omega (arith, lt)) y o w) (built_back rules out own word (suc m) is Val Fit law plain_fit (suc k) lt x is_own v)
      where
        go : ((y : Atom) → own (relation_of y) ≡ true → Val (named word (suc k) y) → IsTall rules own Fit Known (suc k) y)
            → IsBuilt rules own Fit (λ y. IsBefore (suc k) y) x ⊎ ((1 ≤ suc k) × Val (named word (suc k) x))
            → IsTall rules own Fit Known (suc (suc k)) x
        go rec (inl b) = (
          is_own,
          built_map rules own Fit (λ y. IsBefore (suc k) y)
              (λ y. Known y × IsTall rules own Fit Known (suc k) y)
              (λ y s. ((s.1.0, up y s.1.0 (suc k) m (omega arith) (omega (arith, lt)) (omega arith) s.1.1), rec y s.1.0 s.1.1)) x b,
        )
        go rec (inr c) = tall_more rules own Fit Known (suc k) x (rec x is_own c.1)

    -- a rule whose own atoms stand in the last layer but one brings its atom from each of them
    brought : (x : Atom) (b : IsBuilt rules own Fit Known x) (d : IsDerived out Fit (named word (suc m) x))
        → d.rule ≡ layered own word m b.rule → d.map ≡ b.map → (z : Atom) → IsAmong (positive z) b.rule.body → own (relation_of z) ≡ true
        → IsBrought out word m (atom_under b.map z) x
    brought x b d same maps z in_body o =
        let i = seen (named word (suc m) x) d in
        (i.0, i.1, i.2, subst (λ (c : List Literal). IsAmong (positive (named word m (atom_under b.map z))) c) (sym (i.3 ∙ body)) read)
      where
        body : map (literal_under d.map) d.rule.body ≡ map (literal_under b.map) (layered own word m b.rule).body
        body = λ i. map (literal_under (maps i)) (same i).body

        read : IsAmong (positive (named word m (atom_under b.map z))) (map (literal_under b.map) (layered own word m b.rule).body)
        read =
            subst (λ (l : Literal). IsAmong l (map (literal_under b.map) (layered own word m b.rule).body))
            (ap (λ (l : Literal). literal_under b.map l) (inner_same own word m z o) ∙ ap positive (named_under own word b.map m z))
            (among_map_in (literal_under b.map) (layered_literal own word m (positive z)) (layered own word m b.rule).body
            (in_layered own word m b.rule (positive z) in_body))

    -- a derivation in which no atom stands below itself, nor below those of the list
    abbrev IsBelow : ℕ → List Atom → Atom → Type 0
    IsBelow h above y = IsSimple rules own Fit Known h above y

    -- with a simple derivation below a path it stands as many layers below the last but one
    simple_there : (h : ℕ) (above : List Atom) (x : Atom) → IsSimple rules own Fit Known h above x → IsPath out own word m above x
        → AreDistinct above → (j : ℕ) → j + length above ≡ m → (1 ≤ j) × Val (named word j x)
    simple_there zero above x s path differ j e = absurd s
    simple_there (suc h) above x s path differ j e =
        (room j e, by_kind (λ y t p i f. simple_there h (x ∷ above) y t p different i f) s.1.1 s.1.1.kind)
      where
        different : AreDistinct (x ∷ above)
        different = ((λ z among same. s.0 (subst (λ (q : Atom). IsAmong q above) (sym same) among)), differ)

        room : (i : ℕ) → i + length above ≡ m → 1 ≤ i
        room i f = let low = short above x path different in omega (arith, low, f)

        by_kind : ((y : Atom) → IsBelow h (x ∷ above) y → IsPath out own word m (x ∷ above) y → (i : ℕ) → i + length (x ∷ above) ≡ m → (1 ≤ i) × Val (named word i y))
            → (b : IsBuilt rules own Fit (λ y. Known y × IsBelow h (x ∷ above) y) x) → IsFirst own b.rule ⊎ IsInner own b.rule → Val (named word j x)
        by_kind rec b (inl first) =
            let low = room j e in
            up x s.1.0 1 j (omega arith) low (omega (arith, e))
            (built_first rules out own word (suc m) is Val Fit law plain_fit (λ y. Known y × IsBelow h (x ∷ above) y) x s.1.0 b first)
        by_kind rec b (inr inner) = by_layer j e
          where
            low : 1 ≤ m
            low = let enough = room j e in omega (arith, enough, e)

            known : IsBuilt rules own Fit Known x
            known = built_map rules own Fit (λ y. Known y × IsBelow h (x ∷ above) y) Known (λ y t. t.0) x b

            path_to : (z : Atom) → IsAmong (positive z) b.rule.body → own (relation_of z) ≡ true → IsPath out own word m (x ∷ above) (atom_under b.map z)
            path_to z in_body o =
                let d = built_next rules out own word (suc m) is Val Fit law plain_fit m low (omega arith) x s.1.0 known inner in
                (own_under own word b.map z o, (brought x known d refl refl z in_body o, path))

            one : (z : Atom) → IsAmong (positive z) b.rule.body → own (relation_of z) ≡ true → (i : ℕ) → suc i + length above ≡ m
                → (1 ≤ i) × ((own (relation_of (atom_under b.map z)) ≡ true) × Val (named word i (atom_under b.map z)))
            one z in_body o i f =
                let v = rec (atom_under b.map z) (b.inners z in_body o).1 (path_to z in_body o) i (omega (arith, f)) in
                (v.0, (own_under own word b.map z o, v.1))

            by_layer : (i : ℕ) → i + length above ≡ m → Val (named word i x)
            by_layer zero f = absurd (let enough = room zero f in omega (arith, enough))
            by_layer (suc i) f =
                (law (named word (suc i) x)).1
                (built_next rules out own word (suc m) is Val Fit law plain_fit i (one inner.0 inner.1 inner.2 i f).0 (omega (arith, f)) x s.1.0 (record {
                  rule = b.rule;
                  map = b.map;
                  is_rule = b.is_rule;
                  maps_to_ground = b.maps_to_ground;
                  heads = b.heads;
                  kind = b.kind;
                  fits = b.fits;
                  inners = λ z in_body o. (one z in_body o i f).1;
                }) inner)

    -- the last layer has no more than the one before it
    settled : (x : Atom) → own (relation_of x) ≡ true → Val (named word (suc m) x) → (1 ≤ m) × Val (named word m x)
    settled x is_own v =
        simple_there (suc m) [] x (simple rules own Fit Known (suc m) x (tall_there m (omega arith) x is_own v))
        (is_own, heads (named word (suc m) x) v) tt m (omega arith)

    -- an own atom that is there stands in the last layer but one
    lower : (y : Atom) → own (relation_of y) ≡ true → Val y → (1 ≤ m) × Val (named word m y)
    lower y is_own v =
        let t = top_back rules out own word (suc m) is Val Fit law plain_fit y is_own v in
        settled y is_own (up y is_own t.0 (suc m) t.1 t.2 (omega arith) t.3)

    -- what the rules derive is there
    pub there_stacked : (x : Atom) → own (relation_of x) ≡ true → IsDerived rules Fit x → Val x
    there_stacked x is_own d = by_kind (is.kinds d.rule d.is_rule (own_head own word d.rule d.map x d.heads is_own))
      where
        inner : (z : Atom) → IsAmong (positive z) d.rule.body → own (relation_of z) ≡ true
            → (1 ≤ m) × ((own (relation_of (atom_under d.map z)) ≡ true) × Val (named word m (atom_under d.map z)))
        inner z in_body o =
            let own_y = own_under own word d.map z o in
            let v = lower (atom_under d.map z) own_y ((plain_fit (atom_under d.map z) (plain_source (atom_under d.map z)
            (is.plain (relation_of (atom_under d.map z)) own_y))).0 (d.fits (positive z) in_body)) in
            (v.0, (own_y, v.1))

        by_kind : IsFirst own d.rule ⊎ IsInner own d.rule → Val x
        by_kind (inl first) =
            top 1 (omega arith) (omega arith) x is_own
            (built_first rules out own word (suc m) is Val Fit law plain_fit Known x is_own (built_by rules own Fit Known x d (inl first) (λ z in_body o. (inner z in_body o).1)) first)
        by_kind (inr some) =
            top (suc m) (omega arith) (omega arith) x is_own ((law (named word (suc m) x)).1
            (built_next rules out own word (suc m) is Val Fit law plain_fit m (inner some.0 some.1 some.2).0 (omega arith) x is_own (built_by rules own Fit Known x d (inr some) (λ z in_body o. (inner z in_body o).1)) some))
