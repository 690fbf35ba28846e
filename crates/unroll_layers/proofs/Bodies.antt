-- The alternative of an item whose literals are atoms and negations of atoms, and its own atoms.
use Rattle.std.proofs.Common.{ℕ, Bool, true, false, cond, not, ◌&&◌, ◌||◌, ◌≡◌, ◌⊎◌, inl, inr, List, [], ◌∷◌, map, filter, length, refl, sym, ap, subst, ◌∙◌, arith}
use Rattle.std.specs.List.{list_all}
use Rattle.std.specs.Prelude.{nat_lt}
use Rattle.statement.specs.Tree.{Tree, name, list, Trees, no_trees, tree, list_of, name_eq}
use Rattle.statement.specs.Words.{w_or, w_and, w_not}
use Rattle.statement.specs.Clause.{Atom, Literal, positive, negative, Alternative, Relation, relation_of}
use Rattle.statement.specs.Dependence.{IsAmong, is_among}
use Rattle.statement.specs.Items.{atom_in, negated, readings, readings_of_all, picks, item_head, body_trees, item_alternatives}
use Rattle.kif.proofs.Facts.{both}
use Rattle.meaning.proofs.Facts.{among_filter, among_filter_in, among_map_in, among_map_out}
use Rattle.meaning.specs.Layers.{IsFirst, IsStep, layered_literal}
use Rattle.meaning.specs.Stacks.{IsInner}
use Rattle.unroll_layers.specs.Kinds.{is_plain, is_single, is_own_atom, count_own, body_of}

-- the literal that a tree is
abbrev pub literal_of : Tree → Literal
literal_of (name c) = positive (record { word = c; terms = no_trees })
literal_of (list no_trees) = positive (record { word = []; terms = no_trees })
literal_of (list (tree (list us) ts)) = positive (record { word = []; terms = no_trees })
literal_of (list (tree (name c) ts)) = cond (name_eq c w_not) (negated ts) (positive (record { word = c; terms = ts }))

-- the one alternative of an item
abbrev pub rule_of : Tree → Alternative
rule_of t = record { head = item_head t; body = map literal_of (body_of t) }

by_word : (neg pos : Literal) (xs ys : List (List Literal)) (o a n : Bool) → not (o || a) ≡ true
    → cond o xs (cond a ys (cond n ((neg ∷ []) ∷ []) ((pos ∷ []) ∷ []))) ≡ (cond n neg pos ∷ []) ∷ []
by_word neg pos xs ys true a n h = absurd (let bad : ⊥ = cc in bad)
by_word neg pos xs ys false true n h = absurd (let bad : ⊥ = cc in bad)
by_word neg pos xs ys false false true h = refl
by_word neg pos xs ys false false false h = refl

single_reading : (t : Tree) → is_single t ≡ true → readings t ≡ (literal_of t ∷ []) ∷ []
single_reading (name c) h = refl
single_reading (list no_trees) h = absurd (let bad : ⊥ = cc in bad)
single_reading (list (tree (list us) ts)) h = absurd (let bad : ⊥ = cc in bad)
single_reading (list (tree (name c) ts)) h = by_word _ _ _ _ (name_eq c w_or) (name_eq c w_and) (name_eq c w_not) h

all_readings : (ts : Trees) → list_all is_single (list_of ts) ≡ true → readings_of_all ts ≡ map literal_of (list_of ts) ∷ []
all_readings no_trees h = refl
all_readings (tree t ts) h =
    let k = both (is_single t) (list_all is_single (list_of ts)) h in
    λ i. picks (single_reading t k.0 i) (all_readings ts k.1 i)

pub one_rule : (t : Tree) → list_all is_single (body_of t) ≡ true → item_alternatives t ≡ rule_of t ∷ []
one_rule t h = ap (λ (bs : List (List Literal)). map (λ b. let r : Alternative = record { head = item_head t; body = b } in r) bs) (all_readings (body_trees t) h)

-- a rule of such an item is the one
pub is_rule : (t : Tree) (rule : Alternative) → list_all is_single (body_of t) ≡ true → IsAmong rule (item_alternatives t) → rule ≡ rule_of t
is_rule t rule h a = go (subst (λ (rs : List Alternative). IsAmong rule rs) (one_rule t h) a)
  where
    go : IsAmong rule (rule_of t ∷ []) → rule ≡ rule_of t
    go (inl e) = e
    go (inr none) = absurd none

-- Atoms.

by_kind : (o a n : Bool) → not (o || (a || n)) ≡ true → (not (o || a) ≡ true) × (n ≡ false)
by_kind true a n h = absurd (let bad : ⊥ = cc in bad)
by_kind false true n h = absurd (let bad : ⊥ = cc in bad)
by_kind false false true h = absurd (let bad : ⊥ = cc in bad)
by_kind false false false h = (refl, refl)

pub plain_single : (t : Tree) → is_plain t ≡ true → is_single t ≡ true
plain_single (name c) h = refl
plain_single (list no_trees) h = h
plain_single (list (tree (list us) ts)) h = h
plain_single (list (tree (name c) ts)) h = (by_kind (name_eq c w_or) (name_eq c w_and) (name_eq c w_not) h).0

pub plain_literal : (t : Tree) → is_plain t ≡ true → literal_of t ≡ positive (atom_in t)
plain_literal (name c) h = refl
plain_literal (list no_trees) h = refl
plain_literal (list (tree (list us) ts)) h = refl
plain_literal (list (tree (name c) ts)) h =
    ap (λ (n : Bool). cond n (negated ts) (positive (record { word = c; terms = ts }))) (by_kind (name_eq c w_or) (name_eq c w_and) (name_eq c w_not) h).1

-- a literal is an atom or a negation
literal_kinds : (t : Tree) → is_single t ≡ true → (is_plain t ≡ true) ⊎ ((x : Atom) × (literal_of t ≡ negative x))
literal_kinds (name c) h = inl refl
literal_kinds (list no_trees) h = inl h
literal_kinds (list (tree (list us) ts)) h = inl h
literal_kinds (list (tree (name c) ts)) h = go (name_eq c w_or) (name_eq c w_and) (name_eq c w_not) h
  where
    not_of : (ts : Trees) → (x : Atom) × (negated ts ≡ negative x)
    not_of no_trees = (_, refl)
    not_of (tree t ts) = (_, refl)

    go : (o a n : Bool) → not (o || a) ≡ true
        → (not (o || (a || n)) ≡ true) ⊎ ((x : Atom) × (cond n (negated ts) (positive (record { word = c; terms = ts })) ≡ negative x))
    go true a n k = absurd (let bad : ⊥ = cc in bad)
    go false true n k = absurd (let bad : ⊥ = cc in bad)
    go false false true k = inr (not_of ts)
    go false false false k = inl refl

-- a positive literal is the atom that its tree is
atom_is : (t : Tree) (y : Atom) → is_single t ≡ true → literal_of t ≡ positive y → (is_plain t ≡ true) × (atom_in t ≡ y)
atom_is t y h e = go (literal_kinds t h)
  where
    go : (is_plain t ≡ true) ⊎ ((x : Atom) × (literal_of t ≡ negative x)) → (is_plain t ≡ true) × (atom_in t ≡ y)
    go (inl p) = (p, (let f : positive (atom_in t) ≡ positive y = sym (plain_literal t p) ∙ e in let g : atom_in t ≡ y = cc in g))
    go (inr n) = absurd (let f : negative n.0 ≡ positive y = sym n.1 ∙ e in let bad : ⊥ = cc in bad)

module _ (own : List Relation) where
  abbrev is_own : Relation → Bool
  is_own p = is_among p own

  -- an own atom of a body is that of a tree
  own_tree : (ts : List Tree) (y : Atom) → list_all is_single ts ≡ true → IsAmong (positive y) (map literal_of ts) → is_among (relation_of y) own ≡ true
      → (t : Tree) × IsAmong t ts × (is_own_atom own t ≡ true) × (atom_in t ≡ y)
  own_tree ts y h a o =
      let m = among_map_out literal_of (positive y) ts a in
      let k = atom_is m.0 y (each ts m.0 h m.1) (sym m.2) in
      (m.0, m.1, true_both (is_plain m.0) (is_among (relation_of (atom_in m.0)) own) k.0 (ap (λ (x : Atom). is_among (relation_of x) own) k.1 ∙ o), k.1)
    where
      each : (ts : List Tree) (t : Tree) → list_all is_single ts ≡ true → IsAmong t ts → is_single t ≡ true
      each [] t k none = absurd none
      each (u ∷ us) t k (inl e) = ap is_single e ∙ (both (is_single u) (list_all is_single us) k).0
      each (u ∷ us) t k (inr b) = each us t (both (is_single u) (list_all is_single us) k).1 b

      true_both : (p q : Bool) → p ≡ true → q ≡ true → (p && q) ≡ true
      true_both true q e f = f
      true_both false q e f = e

  -- without own atoms
  pub none_own : (t : Tree) (ts : List Tree) → count_own own ts ≡ 0 → IsAmong t ts → is_own_atom own t ≡ false
  none_own t ts n a = go (is_own_atom own t) refl
    where
      none : (us : List Tree) → length us ≡ 0 → IsAmong t us → ⊥
      none [] k x = x
      none (u ∷ us) k x = let bad : ⊥ = cc in bad

      go : (b : Bool) → is_own_atom own t ≡ b → is_own_atom own t ≡ false
      go true e = absurd (none (filter (is_own_atom own) ts) n (among_filter_in (is_own_atom own) t ts a e))
      go false e = e

  pub first_body : (h : Atom) (ts : List Tree) → list_all is_single ts ≡ true → count_own own ts ≡ 0
      → IsFirst is_own (record { head = h; body = map literal_of ts })
  first_body h ts s n y a = go (is_among (relation_of y) own) refl
    where
      go : (b : Bool) → is_among (relation_of y) own ≡ b → is_among (relation_of y) own ≡ false
      go true e =
          let k = own_tree ts y s a e in
          let none_there = none_own k.0 ts n k.1 in
          let bad : ⊥ = absurd_both (is_own_atom own k.0) k.2 none_there in absurd bad
        where
          absurd_both : (b : Bool) → b ≡ true → b ≡ false → ⊥
          absurd_both true p q = cc
          absurd_both false p q = cc
      go false e = e

  pub step_body : (h : Atom) (ts : List Tree) → list_all is_single ts ≡ true → count_own own ts ≡ 1
      → IsStep is_own (record { head = h; body = map literal_of ts })
  step_body h ts s n = go (filter (is_own_atom own) ts) refl n
    where
      parts : (t : Tree) → is_own_atom own t ≡ true → (is_plain t ≡ true) × (is_among (relation_of (atom_in t)) own ≡ true)
      parts t e = both (is_plain t) (is_among (relation_of (atom_in t)) own) e

      here : (t u : Tree) → IsAmong u (t ∷ []) → u ≡ t
      here t u (inl e) = e
      here t u (inr none) = absurd none

      go : (us : List Tree) → filter (is_own_atom own) ts ≡ us → length us ≡ 1 → IsStep is_own (record { head = h; body = map literal_of ts })
      go [] e k = absurd (let bad : ⊥ = cc in bad)
      go (t ∷ u ∷ us) e k = absurd (omega arith)
      go (t ∷ []) e k =
          let f = among_filter (is_own_atom own) t ts (subst (λ (us : List Tree). IsAmong t us) (sym e) (inl refl)) in
          let p = parts t f.1 in (
            atom_in t,
            subst (λ (l : Literal). IsAmong l (map literal_of ts)) (plain_literal t p.0) (among_map_in literal_of t ts f.0),
            p.1,
            λ z a o. let m = own_tree ts z s a o in
                sym m.3 ∙ ap atom_in (here t m.0 (subst (λ (us : List Tree). IsAmong m.0 us) e (among_filter_in (is_own_atom own) m.0 ts m.1 m.2))),
          )

  pub inner_body : (h : Atom) (ts : List Tree) → nat_lt 0 (count_own own ts) ≡ true → IsInner is_own (record { head = h; body = map literal_of ts })
  inner_body h ts n = go (filter (is_own_atom own) ts) refl n
    where
      go : (us : List Tree) → filter (is_own_atom own) ts ≡ us → nat_lt 0 (length us) ≡ true
          → IsInner is_own (record { head = h; body = map literal_of ts })
      go [] e k = absurd (let bad : ⊥ = cc in bad)
      go (t ∷ us) e k =
          let f = among_filter (is_own_atom own) t ts (subst (λ (us : List Tree). IsAmong t us) (sym e) (inl refl)) in
          let p = both (is_plain t) (is_among (relation_of (atom_in t)) own) f.1 in (
            atom_in t,
            subst (λ (l : Literal). IsAmong l (map literal_of ts)) (plain_literal t p.0) (among_map_in literal_of t ts f.0),
            p.1,
          )

  -- what is no own atom is the same in each layer
  pub stays : (word : ℕ → Relation → List ℕ) (k : ℕ) (t : Tree) → is_single t ≡ true → is_own_atom own t ≡ false
      → layered_literal is_own word k (literal_of t) ≡ literal_of t
  stays word k t s o = go (literal_kinds t s)
    where
      second : (p q : Bool) → p ≡ true → (p && q) ≡ false → q ≡ false
      second true q e f = f
      second false q e f = absurd (let bad : ⊥ = cc in bad)

      go : (is_plain t ≡ true) ⊎ ((x : Atom) × (literal_of t ≡ negative x)) → layered_literal is_own word k (literal_of t) ≡ literal_of t
      go (inl p) =
          let other = second (is_plain t) (is_among (relation_of (atom_in t)) own) p o in
          ap (layered_literal is_own word k) (plain_literal t p)
          ∙ ap (λ (b : Bool). positive (cond b (record { word = word k (relation_of (atom_in t)); terms = (atom_in t).terms }) (atom_in t))) other
          ∙ sym (plain_literal t p)
      go (inr n) = ap (layered_literal is_own word k) n.1 ∙ sym n.1
