-- What an and gate reads is right exactly when the whole body is.
use Rattle.std.proofs.Common.{
  ℕ,
  zero,
  suc,
  ◌<◌,
  Bool,
  true,
  false,
  not,
  cond,
  ◌&&◌,
  ◌≡◌,
  ◌⊎◌,
  ◌↔◌,
  inl,
  inr,
  List,
  [],
  ◌∷◌,
  length,
  map,
  refl,
  sym,
  ap,
  subst,
  ◌∙◌,
  eqb,
  eqb-true,
}
use Rattle.std.specs.Prelude.{filter}
use Rattle.statement.specs.Tree.{Tree, name_eq}
use Rattle.kif.proofs.Facts.{both, name_eq_yes}
use Rattle.statement.specs.Clause.{Atom, Literal, positive, negative, Alternative, Relation, relation_of, atom_eq, atom_of}
use Rattle.statement.specs.Words.{w_distinct}
use Rattle.statement.specs.Dependence.{IsAmong, is_moving, is_distinct, DependsDirectly, DependsIn, IsFixed, is_fixed}
use Rattle.rules_profile.proofs.Facts.{IsHead, fixed_tested, not_true}
use Rattle.statement.specs.Substitution.{literal_under}
use Rattle.statement.specs.Meaning.{StateOfTerms, Joint, Source, now, does, distinct, ordinary, source_of, RightAs, IsRight, Holds, HoldsAlways, nothing, nobody, IsWithinBase, IsWithinInput}
use Rattle.meaning.specs.Kept.{PossibleAs, Keeps, HeadsKept, PossibleIf, IsPossible}
use Rattle.statement.specs.Printed.{first_place}
use Rattle.statement.specs.Kept.{number_of}
use Rattle.statement.specs.Listing.{Instance, is_atom_in, listing}
use Rattle.meaning.specs.Listed.{IsKeptInstance, IsWellFormed}
use Rattle.statement.specs.Kept.{is_read, reading, gate}
use Rattle.meaning.specs.Gates.{atom_at, literal_at, IsGateRight, IsBodyRight}
use Rattle.meaning.proofs.Ordered.{place_below, filter_none, among_filter, among_filter_in, among_map_out, among_map_in}
use Rattle.meaning.proofs.Rising.{atom_test}
use Rattle.meaning.proofs.Derivations.{relation-under, relation-literal_under, ordinary_not_distinct}
use Rattle.meaning.proofs.KeptLaw.{sorted_at, right_elsewhere, fixed_alike, holds_heads}
use Rattle.meaning.proofs.ListedLaw.{is_atom_yes, is_atom_in_yes}
use Rattle.meaning.proofs.Possible.{distinct_tested, fixed_below, literal_right}
use Rattle.meaning.proofs.Fold.{listing_exact}
use Rattle.meaning.proofs.Exact.{numbered_exact}

-- the number of an atom leads back to it
pub atom_found : (x : Atom) (atoms : List Atom) → IsAmong x atoms → atom_at atoms (number_of x atoms) ≡ x
atom_found x [] a = absurd a
atom_found x (y ∷ ys) a = go (atom_eq x y) refl a (atom_found x ys)
  where
    go : (b : Bool) → atom_eq x y ≡ b → (x ≡ y) ⊎ IsAmong x ys → (IsAmong x ys → atom_at ys (number_of x ys) ≡ x)
        → atom_at (y ∷ ys) (cond b zero (suc (first_place (atom_eq x) ys))) ≡ x
    go true e k more = sym ((atom_test x y).0 e)
    go false e (inl s) more = let f = (atom_test x y).1 s in absurd cc
    go false e (inr k) more = more k

literal_found : (atoms : List Atom) (l : Literal) → IsAmong (atom_of l) atoms → literal_at atoms (reading atoms l) ≡ l
literal_found atoms (positive x) a = ap positive (atom_found x atoms a)
literal_found atoms (negative x) a = ap negative (atom_found x atoms a)

-- each literal of a kept instance keeps it
pub body_keeps : (rules : List Alternative) (i : Instance) → IsKeptInstance rules i → (l : Literal) → IsAmong l i.body
    → Keeps rules (HeadsKept rules) l
body_keeps rules i k l a =
    let o = among_map_out (literal_under k.map) l k.rule.body (subst (λ (j : Instance). IsAmong l j.body) (sym k.same) a) in
    subst (λ (n : Literal). Keeps rules (HeadsKept rules) n) (sym o.2) (k.kept.keeps o.0 o.1)

module _ (rules : List Alternative) (w : IsWellFormed rules) where
  fixed_yes : (p : Relation) → is_fixed rules p ≡ true → IsFixed rules p
  fixed_yes p e = (fixed_tested rules w.acyclic p).0 e

  fixed_no : (p : Relation) → is_fixed rules p ≡ false → IsFixed rules p → ⊥
  fixed_no p e f = let g = (fixed_tested rules w.acyclic p).1 f in cc

  -- a relation that heads no rule and doesn't move is fixed
  headless_fixed : (p : Relation) → is_moving p ≡ false → (IsHead rules p → ⊥) → IsFixed rules p
  headless_fixed p still none = record { itself = still; below = λ q chain. absurd (go q chain.0 chain.1) }
    where
      go : (q : Relation) (n : ℕ) → DependsIn rules n p q → ⊥
      go q zero d = none (d.rule, d.is_rule, d.heads)
      go q (suc n) c = none ((c.1).rule, (c.1).is_rule, (c.1).heads)

  distinct_relation : (p : Relation) → is_distinct p ≡ true → p ≡ record { word = w_distinct; arity = 2 }
  distinct_relation p e =
      let k = both (name_eq p.word w_distinct) (eqb p.arity 2) e in
      let a = name_eq_yes p.word w_distinct k.0 in
      let b = eqb-true p.arity 2 k.1 in λ i. record { word = a i; arity = b i }

  -- heads are ordinary, so nothing heads `distinct`, and it is fixed
  tested_fixed : (p : Relation) → is_distinct p ≡ true → IsFixed rules p
  tested_fixed p e = headless_fixed p (subst (λ (q : Relation). is_moving q ≡ false) (sym (distinct_relation p e)) refl) none
    where
      none : IsHead rules p → ⊥
      none h =
          let plain = ordinary_not_distinct h.0.head (w.heads h.0 h.1) in
          let same : is_distinct p ≡ false = subst (λ (q : Relation). is_distinct q ≡ false) h.2 plain in cc

  pub distinct_fixed : (x : Atom) (s t : Tree) → source_of x ≡ distinct s t → IsFixed rules (relation_of x)
  distinct_fixed x s t e = tested_fixed (relation_of x) (distinct_tested x.word x.terms s t e)

  -- a positive literal that keeps its instance, of a relation that is not fixed, is possible
  kept_possible : (x : Atom) → is_fixed rules (relation_of x) ≡ false → Keeps rules (HeadsKept rules) (positive x) → IsPossible rules x
  kept_possible x e h = go (source_of x) refl h
    where
      go : (s : Source) → source_of x ≡ s → PossibleAs rules (IsFixed rules (relation_of x)) (HoldsAlways rules x) (HeadsKept rules x) s
          → PossibleIf rules (HeadsKept rules x) s
      go (now p) z k = k
      go (does r m) z k = k
      go (distinct s t) z k = absurd (fixed_no (relation_of x) e (distinct_fixed x s t z))
      go ordinary z k = k.1 (fixed_no (relation_of x) e)

  pub read_there : (l : Literal) → is_read rules (listing rules).atoms l ≡ true → Keeps rules (HeadsKept rules) l
      → IsAmong (atom_of l) (listing rules).atoms
  read_there (positive x) e k = (numbered_exact rules w x).1 (kept_possible x (not_true _ e) k)
  read_there (negative x) e k = is_atom_yes x (listing rules).atoms
      (both (not (is_fixed rules (relation_of x))) (is_atom_in x (listing rules).atoms) e).1

  module _ (S : StateOfTerms) (J : Joint) where
    -- an atom of a fixed relation is right in a context exactly when it is in the empty one
    fixed_right : (x : Atom) → IsFixed rules (relation_of x) → RightAs S J (Holds rules S J x) (source_of x) ↔ RightAs nothing nobody
        (HoldsAlways rules x) (source_of x)
    fixed_right x fixed =
        right_elsewhere S nothing J nobody (Holds rules S J x) (HoldsAlways rules x) (source_of x) (relation_of x) (sorted_at x.word x.terms)
        (λ other. fixed.itself)
        (λ plain other. fixed_alike rules w.acyclic S nothing J nobody (relation_of x) fixed x refl)

    -- a literal of a fixed relation that keeps its instance is right in every context
    fixed_literal : (l : Literal) → IsFixed rules (relation_of (atom_of l)) → Keeps rules (HeadsKept rules) l → IsRight S J (Holds rules S J) l
    fixed_literal (positive x) fixed k =
        (fixed_right x fixed).1 (literal_right rules w.acyclic (positive x) (λ other. (fixed, fixed.itself)) k)
    fixed_literal (negative x) fixed k =
        λ right. literal_right rules w.acyclic (negative x) (λ other. (fixed, fixed.itself)) k ((fixed_right x fixed).0 right)

    module _ (base : IsWithinBase rules S) (input : IsWithinInput rules J) where
      -- an atom that is right is possible, if it is no `distinct`
      right_possible : (x : Atom) → is_fixed rules (relation_of x) ≡ false → RightAs S J (Holds rules S J x) (source_of x) → IsPossible rules x
      right_possible x e h = go (source_of x) refl h
        where
          go : (s : Source) → source_of x ≡ s → RightAs S J (Holds rules S J x) s → PossibleIf rules (HeadsKept rules x) s
          go (now p) z k = base p k
          go (does r m) z k = input r m k
          go (distinct s t) z k = absurd (fixed_no (relation_of x) e (distinct_fixed x s t z))
          go ordinary z k = holds_heads rules w.acyclic S J base input (relation_of x) x refl k

      unread : (l : Literal) → is_read rules (listing rules).atoms l ≡ false → Keeps rules (HeadsKept rules) l → IsRight S J (Holds rules S J) l
      unread (positive x) e k = fixed_literal (positive x) (fixed_yes (relation_of x) (not_not _ e)) k
        where
          not_not : (b : Bool) → not b ≡ false → b ≡ true
          not_not true h = refl
          not_not false h = absurd cc
      unread (negative x) e k = go (is_fixed rules (relation_of x)) refl e
        where
          go : (b : Bool) → is_fixed rules (relation_of x) ≡ b → (not b && is_atom_in x (listing rules).atoms) ≡ false
              → IsRight S J (Holds rules S J) (negative x)
          go true f h = fixed_literal (negative x) (fixed_yes (relation_of x) f) k
          go false f h = λ right.
              let there = (numbered_exact rules w x).1 (right_possible x f right) in
              let g = is_atom_in_yes x (listing rules).atoms there in absurd cc

      -- what the gate reads is right exactly when the whole body is
      pub gate_right : (i : Instance) → IsAmong i (listing rules).kept → IsGateRight rules S J i ↔ IsBodyRight rules S J i
      gate_right i a = (there, back)
        where
          keeps : (l : Literal) → IsAmong l i.body → Keeps rules (HeadsKept rules) l
          keeps l b = body_keeps rules i ((listing_exact rules w i).0 a) l b

          there : IsGateRight rules S J i → IsBodyRight rules S J i
          there h l b = go (is_read rules (listing rules).atoms l) refl
            where
              go : (t : Bool) → is_read rules (listing rules).atoms l ≡ t → IsRight S J (Holds rules S J) l
              go false e = unread l e (keeps l b)
              go true e =
                  let r = among_map_in (reading (listing rules).atoms) l (filter (is_read rules (listing rules).atoms) i.body)
                  (among_filter_in (is_read rules (listing rules).atoms) l i.body b e) in
                  subst (λ (n : Literal). IsRight S J (Holds rules S J) n) (literal_found (listing rules).atoms l (read_there l e (keeps l b)))
                  (h (reading (listing rules).atoms l) r)

          back : IsBodyRight rules S J i → IsGateRight rules S J i
          back h r b =
              let o = among_map_out (reading (listing rules).atoms) r (filter (is_read rules (listing rules).atoms) i.body) b in
              let k = among_filter (is_read rules (listing rules).atoms) o.0 i.body o.1 in
              let e = literal_found (listing rules).atoms o.0 (read_there o.0 k.1 (keeps o.0 k.0)) in
              subst (λ (s : ℕ × Bool). IsRight S J (Holds rules S J) (literal_at (listing rules).atoms s)) (sym o.2)
              (subst (λ (n : Literal). IsRight S J (Holds rules S J) n) (sym e) (h o.0 k.0))

  -- the body of an instance whose head is of a fixed relation is all fixed
  body_fixed : (i : Instance) → IsKeptInstance rules i → IsFixed rules (relation_of i.head) → (l : Literal) → IsAmong l i.body
      → IsFixed rules (relation_of (atom_of l))
  body_fixed i k fixed l a = go (is_distinct (relation_of (atom_of l))) refl
    where
      go : (b : Bool) → is_distinct (relation_of (atom_of l)) ≡ b → IsFixed rules (relation_of (atom_of l))
      go true e = tested_fixed (relation_of (atom_of l)) e
      go false e =
          let o = among_map_out (literal_under k.map) l k.rule.body (subst (λ (j : Instance). IsAmong l j.body) (sym k.same) a) in
          let direct : DependsDirectly rules (relation_of i.head) (relation_of (atom_of l)) = record {
            rule = k.rule;
            literal = o.0;
            is_rule = k.kept.is_rule;
            heads = sym (relation-under k.map k.rule.head) ∙ ap (λ (j : Instance). relation_of j.head) k.same;
            in_body = o.1;
            names = sym (relation-literal_under k.map o.0) ∙ ap (λ (n : Literal). relation_of (atom_of n)) (sym o.2);
            not_distinct = e;
          } in
          fixed_below rules w.acyclic (relation_of i.head) (relation_of (atom_of l)) fixed direct

  fixed_unread : (l : Literal) → IsFixed rules (relation_of (atom_of l)) → is_read rules (listing rules).atoms l ≡ false
  fixed_unread (positive x) f = let e = (fixed_tested rules w.acyclic (relation_of x)).1 f in rw e refl
  fixed_unread (negative x) f = let e = (fixed_tested rules w.acyclic (relation_of x)).1 f in rw e refl

  -- the gate of such an instance reads nothing
  pub gate_fixed : (i : Instance) → IsAmong i (listing rules).kept → IsFixed rules (relation_of i.head) → gate rules i ≡ []
  gate_fixed i a fixed =
      ap (map (reading (listing rules).atoms))
      (filter_none (is_read rules (listing rules).atoms) i.body (λ l b. fixed_unread l (body_fixed i ((listing_exact rules w i).0 a) fixed l b)))

  -- what a gate reads has a number
  pub gate_numbered : (i : Instance) → IsAmong i (listing rules).kept → (r : ℕ × Bool) → IsAmong r (gate rules i) → r.0 < length (listing rules).atoms
  gate_numbered i a r b =
      let o = among_map_out (reading (listing rules).atoms) r (filter (is_read rules (listing rules).atoms) i.body) b in
      let k = among_filter (is_read rules (listing rules).atoms) o.0 i.body o.1 in
      let there = read_there o.0 k.1 (body_keeps rules i ((listing_exact rules w i).0 a) o.0 k.0) in
      subst (λ (s : ℕ × Bool). s.0 < length (listing rules).atoms) (sym o.2) (below o.0 there)
    where
      below : (l : Literal) → IsAmong (atom_of l) (listing rules).atoms → (reading (listing rules).atoms l).0 < length (listing rules).atoms
      below (positive x) h = place_below atom_eq atom_test x (listing rules).atoms h
      below (negative x) h = place_below atom_eq atom_test x (listing rules).atoms h
