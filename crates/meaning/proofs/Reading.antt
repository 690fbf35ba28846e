-- Rules in layers and the rules that they come from, under a map.
use Rattle.std.proofs.Common.{ℕ, zero, suc, Bool, true, false, ◌&&◌, cond, ◌≡◌, ◌<◌, ◌≤◌, ◌⊎◌, inl, inr, List, refl, sym, ap, subst, ◌∙◌, arith}
use Rattle.statement.specs.Tree.{Tree, Trees, no_trees, tree, name_eq}
use Rattle.statement.specs.Words.{w_true, w_does, w_distinct}
use Rattle.statement.specs.Clause.{Atom, Literal, positive, negative, Alternative, Relation, relation_of, count_trees}
use Rattle.statement.specs.Dependence.{IsAmong, is_distinct, is_moving}
use Rattle.statement.specs.Substitution.{Map, IsGroundMap, substitute_all, atom_under, literal_under}
use Rattle.statement.specs.Meaning.{Source, now, does, distinct, ordinary, source_at, source_of, IsDerived}
use Rattle.meaning.proofs.Facts.{relation-under, now_is, does_is, among_map_in}
use Rattle.meaning.specs.Layers.{named, layer_of, layered_literal, layered, IsFirst, IsStep, IsLayered}
use Rattle.meaning.specs.Stacks.{IsInner, IsCarrying, IsStacked}

-- Sources.

distinct_at : (w : List ℕ) (ts : Trees) (s t : Tree) → source_at w ts ≡ distinct s t → is_distinct (record { word = w; arity = count_trees ts }) ≡ true
distinct_at w no_trees s t e = absurd (let bad : ⊥ = cc in bad)
distinct_at w (tree p no_trees) s t e = go (name_eq w w_true) e
  where
    go : (b : Bool) → cond b (now p) ordinary ≡ distinct s t → (name_eq w w_distinct && false) ≡ true
    go true f = absurd (let bad : ⊥ = cc in bad)
    go false f = absurd (let bad : ⊥ = cc in bad)
distinct_at w (tree p (tree q no_trees)) s t e = go (name_eq w w_does) (name_eq w w_distinct) e
  where
    go : (a b : Bool) → cond a (does p q) (cond b (distinct p q) ordinary) ≡ distinct s t → (b && true) ≡ true
    go true b f = absurd (let bad : ⊥ = cc in bad)
    go false true f = refl
    go false false f = absurd (let bad : ⊥ = cc in bad)
distinct_at w (tree p (tree q (tree r rs))) s t e = absurd (let bad : ⊥ = cc in bad)

-- an atom to whose relation the language gives no meaning is ordinary
pub plain_source : (x : Atom) → (is_moving (relation_of x) ≡ false) × (is_distinct (relation_of x) ≡ false) → source_of x ≡ ordinary
plain_source x plain = go (source_of x) refl
  where
    go : (k : Source) → source_of x ≡ k → source_of x ≡ ordinary
    go (now p) e =
        let moves = ap (λ (y : Atom). is_moving (relation_of y)) (now_is x p e) in
        let still = plain.0 in absurd (let bad : ⊥ = cc in bad)
    go (does r m) e =
        let moves = ap (λ (y : Atom). is_moving (relation_of y)) (does_is x r m e) in
        let still = plain.0 in absurd (let bad : ⊥ = cc in bad)
    go (distinct s t) e =
        let d = distinct_at x.word x.terms s t e in let other = plain.1 in absurd (let bad : ⊥ = cc in bad)
    go ordinary e = e

-- Names under a map.

-- an atom is its relation's word and its terms
atom_same : (x y : Atom) → x.word ≡ y.word → x.terms ≡ y.terms → x ≡ y
atom_same x y e f = λ i. record { word = e i; terms = f i }

-- the literal has an own atom, and no `not`
abbrev pub is_inner : (Relation → Bool) → Literal → Bool
is_inner own (positive y) = own (relation_of y)
is_inner own (negative y) = false

module _ (own : Relation → Bool) (word : ℕ → Relation → List ℕ) where
  pub named_under : (m : Map) (k : ℕ) (a : Atom) → atom_under m (named word k a) ≡ named word k (atom_under m a)
  named_under m k a = λ i. record { word = word k (sym (relation-under m a) i); terms = substitute_all m a.terms }

  -- the head of a layered rule
  pub head_there : (m : Map) (k : ℕ) (a x : Atom) → atom_under m a ≡ x → atom_under m (named word k a) ≡ named word k x
  head_there m k a x e = named_under m k a ∙ ap (λ (y : Atom). named word k y) e

  pub head_back : (m : Map) (k : ℕ) (a x : Atom) → relation_of a ≡ relation_of x → atom_under m (named word k a) ≡ named word k x
      → atom_under m a ≡ x
  head_back m k a x same e = atom_same (atom_under m a) x (ap (λ (p : Relation). p.word) same) (ap (λ (y : Atom). y.terms) e)

  pub outer_same : (k : ℕ) (l : Literal) → is_inner own l ≡ false → layered_literal own word k l ≡ l
  outer_same k (positive y) e = ap (λ (b : Bool). positive (cond b (named word k y) y)) e
  outer_same k (negative y) e = refl

  pub inner_same : (k : ℕ) (y : Atom) → own (relation_of y) ≡ true → layered_literal own word k (positive y) ≡ positive (named word k y)
  inner_same k y e = ap (λ (b : Bool). positive (cond b (named word k y) y)) e

  -- the relation of a rule's head is that of what it derives
  pub own_head : (rule : Alternative) (m : Map) (x : Atom) → atom_under m rule.head ≡ x → own (relation_of x) ≡ true
      → own (relation_of rule.head) ≡ true
  own_head rule m x heads is_own = ap own (sym (relation-under m rule.head) ∙ ap relation_of heads) ∙ is_own

  -- an own atom stays one under a map
  pub own_under : (m : Map) (z : Atom) → own (relation_of z) ≡ true → own (relation_of (atom_under m z)) ≡ true
  own_under m z o = ap own (relation-under m z) ∙ o

  -- none is, in a rule that has none
  pub first_outer : (rule : Alternative) → IsFirst own rule → (l : Literal) → IsAmong l rule.body → is_inner own l ≡ false
  first_outer rule first (positive y) among = first y among
  first_outer rule first (negative y) among = refl

  -- one literal of a layered rule that a rule has
  pub in_layered : (k : ℕ) (rule : Alternative) (l : Literal) → IsAmong l rule.body
      → IsAmong (layered_literal own word k l) (layered own word k rule).body
  in_layered k rule l among = among_map_in (layered_literal own word k) l rule.body among

-- An atom in a layer is derived as a rule of the first rules says, whose own atoms, if it has some, stand in the layer before; `Inner` tells
-- which rules have some.
pub record IsRead (rules out : List Alternative) (own : Relation → Bool) (word : ℕ → Relation → List ℕ) (Inner : Alternative → Type 0)
    (F : Literal → Type 0) (k : ℕ) (x : Atom) : Type 0 where
  pub rule : Alternative
  pub map : Map
  pub is_rule : IsAmong rule rules
  pub maps_to_ground : IsGroundMap map
  pub heads : atom_under map rule.head ≡ x
  pub kind : ((k ≡ 0) × IsFirst own rule) ⊎ ((1 ≤ k) × Inner rule)
  pub there : IsAmong (layered own word k rule) out
  pub fits : (l : Literal) → IsAmong l rule.body → F (literal_under map (layered_literal own word k l))

-- `Carry` tells which rules of a layer come from none of the first rules
module _ (rules out : List Alternative) (own : Relation → Bool) (word : ℕ → Relation → List ℕ) (n : ℕ) (Inner : Alternative → Type 0)
    (Carry : ℕ → Relation → Alternative → Type 0)
    (only_first : (p : Relation) → own p ≡ true → (rule : Alternative) → IsAmong rule out → relation_of rule.head ≡ layer_of word 1 p
    → (r : Alternative) × IsAmong r rules × (relation_of r.head ≡ p) × IsFirst own r × (rule ≡ layered own word 0 r))
    (only_next : (k : ℕ) → 1 ≤ k → k < n → (p : Relation) → own p ≡ true → (rule : Alternative) → IsAmong rule out
    → relation_of rule.head ≡ layer_of word (suc k) p
    → ((r : Alternative) × IsAmong r rules × (relation_of r.head ≡ p) × Inner r × (rule ≡ layered own word k r)) ⊎ Carry k p rule)
  where
    pub read_back : (F : Literal → Type 0) (k : ℕ) → k < n → (x : Atom) → own (relation_of x) ≡ true → (d : IsDerived out F (named word (suc k) x))
        → IsRead rules out own word Inner F k x ⊎ ((1 ≤ k) × Carry k (relation_of x) d.rule)
    read_back F k lt x is_own d = by_place k lt refl
      where
        same : relation_of d.rule.head ≡ layer_of word (suc k) (relation_of x)
        same = sym (relation-under d.map d.rule.head) ∙ ap relation_of d.heads

        build : (r : Alternative) → IsAmong r rules → relation_of r.head ≡ relation_of x
            → ((k ≡ 0) × IsFirst own r) ⊎ ((1 ≤ k) × Inner r) → d.rule ≡ layered own word k r → IsRead rules out own word Inner F k x
        build r is_rule heads kind e = record {
          rule = r;
          map = d.map;
          is_rule = is_rule;
          maps_to_ground = d.maps_to_ground;
          heads = head_back own word d.map (suc k) r.head x heads
              (subst (λ (q : Alternative). atom_under d.map q.head ≡ named word (suc k) x) e d.heads);
          kind = kind;
          there = subst (λ (q : Alternative). IsAmong q out) e d.is_rule;
          fits = λ l among. subst (λ (q : Alternative). (z : Literal) → IsAmong z q.body → F (literal_under d.map z)) e d.fits
              (layered_literal own word k l) (in_layered own word k r l among);
        }

        by_rule : (j : ℕ) → k ≡ suc j
            → ((r : Alternative) × IsAmong r rules × (relation_of r.head ≡ relation_of x) × Inner r × (d.rule ≡ layered own word (suc j) r))
            ⊎ Carry (suc j) (relation_of x) d.rule
            → IsRead rules out own word Inner F k x ⊎ ((1 ≤ k) × Carry k (relation_of x) d.rule)
        by_rule j e (inl r) =
            inl (build r.0 r.1 r.2 (inr (omega (arith, e), r.3)) (subst (λ (i : ℕ). d.rule ≡ layered own word i r.0) (sym e) r.4))
        by_rule j e (inr c) = inr (omega (arith, e), subst (λ (i : ℕ). Carry i (relation_of x) d.rule) (sym e) c)

        by_place : (j : ℕ) → j < n → k ≡ j → IsRead rules out own word Inner F k x ⊎ ((1 ≤ k) × Carry k (relation_of x) d.rule)
        by_place zero below e =
            let r = only_first (relation_of x) is_own d.rule d.is_rule (subst (λ (i : ℕ). relation_of d.rule.head ≡ layer_of word (suc i) (relation_of x)) e same) in
            inl (build r.0 r.1 r.2 (inl (e, r.3)) (subst (λ (i : ℕ). d.rule ≡ layered own word i r.0) (sym e) r.4))
        by_place (suc j) below e =
            by_rule j e (only_next (suc j) (omega arith) below (relation_of x) is_own d.rule d.is_rule
            (subst (λ (i : ℕ). relation_of d.rule.head ≡ layer_of word (suc i) (relation_of x)) e same))

module _ (rules out : List Alternative) (own : Relation → Bool) (word : ℕ → Relation → List ℕ) (n : ℕ) where
  -- where no layer keeps the one before
  pub read_layered : IsLayered rules out own word n → (F : Literal → Type 0) (k : ℕ) → k < n → (x : Atom) → own (relation_of x) ≡ true
      → IsDerived out F (named word (suc k) x) → IsRead rules out own word (IsStep own) F k x
  read_layered is F k lt x is_own d =
      go (read_back rules out own word n (IsStep own) (λ j p rule. ⊥) is.only_first
      (λ j low high p o rule among same. inl (is.only_next j low high p o rule among same)) F k lt x is_own d)
    where
      go : IsRead rules out own word (IsStep own) F k x ⊎ ((1 ≤ k) × ⊥) → IsRead rules out own word (IsStep own) F k x
      go (inl r) = r
      go (inr none) = absurd none.1

  -- where each does
  pub read_stacked : IsStacked rules out own word n → (F : Literal → Type 0) (k : ℕ) → k < n → (x : Atom) → own (relation_of x) ≡ true
      → (d : IsDerived out F (named word (suc k) x))
      → IsRead rules out own word (IsInner own) F k x ⊎ ((1 ≤ k) × IsCarrying word k (relation_of x) d.rule)
  read_stacked is F k lt x is_own d =
      read_back rules out own word n (IsInner own) (λ j p rule. IsCarrying word j p rule) is.only_first is.only_next F k lt x is_own d

  -- by a rule that carries, what it derives fits in the layer before
  pub carried_fits : (F : Literal → Type 0) (k : ℕ) (x : Atom) (d : IsDerived out F (named word (suc k) x))
      → IsCarrying word k (relation_of x) d.rule → F (positive (named word k x))
  carried_fits F k x d c =
      subst (λ (y : Atom). F (positive y)) (head_there own word d.map k c.0 x
      (head_back own word d.map (suc k) c.0 x c.1 (subst (λ (h : Atom). atom_under d.map h ≡ named word (suc k) x) c.2 d.heads)))
      (d.fits (positive (named word k c.0))
      (subst (λ (b : List Literal). IsAmong (positive (named word k c.0)) b) (sym c.3) (inl refl)))

  -- a rule with own atoms is none without
  pub first_not_inner : (rule : Alternative) → IsFirst own rule → IsInner own rule → ⊥
  first_not_inner rule first inner = let no = first inner.0 inner.1 in let yes = inner.2 in cc

  -- layers of which none keeps the one before are layers
  pub stacked_of : IsLayered rules out own word n → IsStacked rules out own word n
  stacked_of is = record {
    some = is.some;
    kinds = λ rule among o. one rule (is.kinds rule among o);
    first = is.first;
    next = λ k low high rule among o inner. is.next k low high rule among o (two rule inner (is.kinds rule among o));
    only_first = is.only_first;
    only_next = λ k low high p o rule among same.
        let r = is.only_next k low high p o rule among same in inl (r.0, r.1, r.2, (r.3.0, r.3.1, r.3.2), r.4);
    only_top = is.only_top;
    once = is.once;
    plain = is.plain;
    plain_layers = is.plain_layers;
  }
    where
      one : (rule : Alternative) → IsFirst own rule ⊎ IsStep own rule → IsFirst own rule ⊎ IsInner own rule
      one rule (inl first) = inl first
      one rule (inr step) = inr (step.0, step.1, step.2)

      two : (rule : Alternative) → IsInner own rule → IsFirst own rule ⊎ IsStep own rule → IsStep own rule
      two rule inner (inl first) = absurd (first_not_inner rule first inner)
      two rule inner (inr step) = step
