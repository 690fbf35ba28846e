-- Going through the kept instances by numbers finds the numbers of what holds.
use Rattle.std.proofs.Common.{
  ℕ,
  zero,
  suc,
  ◌<◌,
  Bool,
  true,
  false,
  not,
  cond,
  ◌&&◌,
  ◌||◌,
  ◌≡◌,
  ◌⊎◌,
  ◌↔◌,
  inl,
  inr,
  List,
  [],
  ◌∷◌,
  ◌++◌,
  append_assoc,
  length,
  map,
  refl,
  sym,
  ap,
  subst,
  ◌∙◌,
  arith,
  eqb-true,
  eq-eqb,
}
use Rattle.std.specs.Prelude.{filter, ◌==◌}
use Rattle.kif.proofs.Facts.{both, true_and}
use Rattle.statement.specs.Clause.{Atom, Literal, positive, negative, Alternative, relation_of, atom_eq, atom_of}
use Rattle.statement.specs.Dependence.{IsAmong, is_fixed}
use Rattle.rules_profile.proofs.Facts.{not_true, not_false, IsAmong-append, IsAmong-append_right, or_cases, or_left, or_right}
use Rattle.statement.specs.declared.kind.Kind.{Kind}
use Rattle.statement.specs.Meaning.{StateOfTerms, Joint, Source, now, does, distinct, ordinary, source_of, RightAs, IsRight, Holds, IsWithinBase, IsWithinInput}
use Rattle.statement.specs.Kept.{number_of, is_read, reading, gate, numbered}
use Rattle.statement.specs.Printed.{first_place}
use Rattle.statement.specs.Listing.{Instance, is_atom_in, listing}
use Rattle.meaning.specs.Listed.{IsWellFormed, HasRightListed}
use Rattle.meaning.specs.Gates.{atom_at, literal_at, IsBodyRight}
use Rattle.statement.specs.Kinds.{kind_of}
use Rattle.meaning.proofs.Facts.{
  before,
  listed_suffice,
  heads_exact,
  listing_exact,
  atoms_exact,
  atom_found,
  gate_right,
  gate_numbered,
  source_under,
  among_map_out,
  among_filter,
  atom_test,
}
use Rattle.statement.specs.Rules.{Turn}
use Rattle.game_rules.specs.RuleMeaning.{Agree}
use Rattle.statement.specs.GameNumbers.{stands_in}
use Rattle.game_rules.specs.RulePlay.{kind_at, is_given, is_right, all_right, found_by, holds}

-- an atom whose number is below their count is one of the atoms
listed_below : (x : Atom) (atoms : List Atom) → number_of x atoms < length atoms → IsAmong x atoms
listed_below x [] lt = absurd (omega arith)
listed_below x (y ∷ ys) lt = go (atom_eq x y) refl lt (listed_below x ys)
  where
    go : (b : Bool) → atom_eq x y ≡ b → cond b zero (suc (first_place (atom_eq x) ys)) < suc (length ys) → (number_of x ys < length ys → IsAmong x ys)
        → (x ≡ y) ⊎ IsAmong x ys
    go true e l more = inl ((atom_test x y).0 e)
    go false e l more = inr (more (omega arith))

pub kind_listed : (f : Atom → Kind) (x : Atom) (atoms : List Atom) → IsAmong x atoms → kind_at (map f atoms) (number_of x atoms) ≡ f x
kind_listed f x [] a = absurd a
kind_listed f x (y ∷ ys) a = go (atom_eq x y) refl a (kind_listed f x ys)
  where
    go : (b : Bool) → atom_eq x y ≡ b → (x ≡ y) ⊎ IsAmong x ys → (IsAmong x ys → kind_at (map f ys) (number_of x ys) ≡ f x)
        → kind_at (map f (y ∷ ys)) (cond b zero (suc (first_place (atom_eq x) ys))) ≡ f x
    go true e l more = sym (ap f ((atom_test x y).0 e))
    go false e (inl s) more = let t = (atom_test x y).1 s in absurd cc
    go false e (inr k) more = more k

-- what the sources other than rules say does not depend on the rules
other_source : (S : StateOfTerms) (J : Joint) (H : Type 0) (s : Source) → (s ≡ ordinary → ⊥) → RightAs S J ⊥ s ↔ RightAs S J H s
other_source S J H (now p) no_rule = ((λ h. h), (λ h. h))
other_source S J H (does r m) no_rule = ((λ h. h), (λ h. h))
other_source S J H (distinct s t) no_rule = ((λ h. h), (λ h. h))
other_source S J H ordinary no_rule = absurd (no_rule refl)

pub right_there : (S : StateOfTerms) (J : Joint) (H : Type 0) (s : Source) → s ≡ ordinary → H ↔ RightAs S J H s
right_there S J H (now p) e = absurd cc
right_there S J H (does r m) e = absurd cc
right_there S J H (distinct s t) e = absurd cc
right_there S J H ordinary e = ((λ h. h), (λ h. h))

is_ordinary : (s : Source) → (s ≡ ordinary) ⊎ (s ≡ ordinary → ⊥)
is_ordinary (now p) = inr (λ e. absurd cc)
is_ordinary (does r m) = inr (λ e. absurd cc)
is_ordinary (distinct s t) = inr (λ e. absurd cc)
is_ordinary ordinary = inl refl

literal_told : (S : StateOfTerms) (J : Joint) (H : Atom → Type 0) (x : Atom) (b negated : Bool) → (b ≡ true) ↔ RightAs S J (H x) (source_of x)
    → (cond negated (not b) b ≡ true) ↔ IsRight S J H (cond negated (negative x) (positive x))
literal_told S J H x b false h = h
literal_told S J H x b true h =
    ((λ e r. let f = h.1 r in let g = not_true b e in absurd cc), (λ n. go b refl (λ e. n (h.0 e))))
  where
    go : (c : Bool) → b ≡ c → (b ≡ true → ⊥) → not b ≡ true
    go true e n = absurd (n e)
    go false e n = not_false b e

all_told : (S : StateOfTerms) (J : Joint) (H : Atom → Type 0) (atoms : List Atom) (right : ℕ → Bool) (rs : List (ℕ × Bool))
    → ((r : ℕ × Bool) → IsAmong r rs → (right r.0 ≡ true) ↔ RightAs S J (H (atom_at atoms r.0)) (source_of (atom_at atoms r.0)))
    → (all_right right rs ≡ true) ↔ ((r : ℕ × Bool) → IsAmong r rs → IsRight S J H (literal_at atoms r))
all_told S J H atoms right [] h = ((λ e r a. absurd a), (λ k. refl))
all_told S J H atoms right (q ∷ rs) h =
    let first = literal_told S J H (atom_at atoms q.0) (right q.0) q.1 (h q (inl refl)) in
    let rest = all_told S J H atoms right rs (λ r a. h r (inr a)) in
    ((λ e r a. there first rest e r a), (λ k. true_and _ _ (first.1 (k q (inl refl))) (rest.1 (λ r a. k r (inr a)))))
  where
    there : (cond q.1 (not (right q.0)) (right q.0) ≡ true) ↔ IsRight S J H (literal_at atoms q)
        → (all_right right rs ≡ true) ↔ ((r : ℕ × Bool) → IsAmong r rs → IsRight S J H (literal_at atoms r))
        → (cond q.1 (not (right q.0)) (right q.0) && all_right right rs) ≡ true → (r : ℕ × Bool) → (r ≡ q) ⊎ IsAmong r rs
        → IsRight S J H (literal_at atoms r)
    there first rest e r (inl s) = subst (λ (p : ℕ × Bool). IsRight S J H (literal_at atoms p)) (sym s)
        (first.0 (both (cond q.1 (not (right q.0)) (right q.0)) (all_right right rs) e).0)
    there first rest e r (inr a) = rest.0 (both (cond q.1 (not (right q.0)) (right q.0)) (all_right right rs) e).1 r a

reading_number : (atoms : List Atom) (l : Literal) → (reading atoms l).0 ≡ number_of (atom_of l) atoms
reading_number atoms (positive x) = refl
reading_number atoms (negative x) = refl

read_moving : (rules : List Alternative) (atoms : List Atom) (l : Literal) → is_read rules atoms l ≡ true
    → is_fixed rules (relation_of (atom_of l)) ≡ false
read_moving rules atoms (positive x) e = not_true (is_fixed rules (relation_of x)) e
read_moving rules atoms (negative x) e = not_true (is_fixed rules (relation_of x))
    (both (not (is_fixed rules (relation_of x))) (is_atom_in x atoms) e).0

module _ (rules : List Alternative) (w : IsWellFormed rules) where
  head_plain : (i : Instance) → IsAmong i (listing rules).kept → source_of i.head ≡ ordinary
  head_plain i a =
      let k = (listing_exact rules w i).0 a in
      subst (λ (j : Instance). source_of j.head ≡ ordinary) k.same
      (source_under k.map k.rule.head.word k.rule.head.terms (w.heads k.rule k.kept.is_rule))

  module _ (S : StateOfTerms) (J : Joint) (base : IsWithinBase rules S) (input : IsWithinInput rules J) (s : List ℕ) (j : Turn)
      (given : Agree rules S J s j) where
    abbrev number : Atom → ℕ
    number x = number_of x (listing rules).atoms

    -- what was found is the head of an instance that is right, and each such head was found
    record AreFound (done : List Instance) (found : List ℕ) : Type 0 where
      sound : (x : Atom) → IsAmong x (listing rules).atoms → stands_in (number x) found ≡ true → HasRightListed rules S J x
      complete : (i : Instance) → IsAmong i done → IsBodyRight rules S J i → stands_in (number i.head) found ≡ true

    abbrev kinds : List Kind
    kinds = map (kind_of rules) (listing rules).atoms

    law : (x : Atom) → Holds rules S J x ↔ HasRightListed rules S J x
    law x = listed_suffice rules w S J base input x

    pub head_listed : (i : Instance) → IsAmong i (listing rules).kept → IsAmong i.head (listing rules).atoms
    head_listed i a = (atoms_exact rules w i.head (head_plain i a)).1 ((heads_exact rules w i.head).1 (i, a, refl))

    -- an atom is right by its number exactly where it is right, if all instances that head it were gone through
    told : (done : List Instance) (found : List ℕ) → AreFound done found → (x : Atom) → IsAmong x (listing rules).atoms
        → is_fixed rules (relation_of x) ≡ false
        → (source_of x ≡ ordinary → (k : Instance) → IsAmong k (listing rules).kept → k.head ≡ x → IsAmong k done)
        → (is_right kinds s j found (number x) ≡ true) ↔ RightAs S J (Holds rules S J x) (source_of x)
    told done found f x listed moving reach = go (is_ordinary (source_of x))
      where
        same : is_right kinds s j found (number x) ≡ (is_given s j (kind_of rules x) || stands_in (number x) found)
        same = ap (λ (k : Kind). is_given s j k || stands_in (number x) found) (kind_listed (kind_of rules) x (listing rules).atoms listed)

        go : (source_of x ≡ ordinary) ⊎ (source_of x ≡ ordinary → ⊥) → (is_right kinds s j found (number x) ≡ true) ↔ RightAs S J (Holds rules S J x)
            (source_of x)
        go (inl plain) = (
          (λ e. (right_there S J (Holds rules S J x) (source_of x) plain).0
              (elim (or_cases (is_given s j (kind_of rules x)) (stands_in (number x) found) (sym same ∙ e)) [
                | inl g ↦ absurd ((right_there S J ⊥ (source_of x) plain).1 ((given x listed moving).0 g))
                | inr g ↦ (law x).1 (f.sound x listed g)
              ])),
          (λ h.
              let r = (law x).0 ((right_there S J (Holds rules S J x) (source_of x) plain).1 h) in
              let there = reach plain r.instance r.listed r.heads in
              same ∙ or_right (is_given s j (kind_of rules x)) (stands_in (number x) found)
              (subst (λ (y : Atom). stands_in (number y) found ≡ true) r.heads (f.complete r.instance there r.right))),
        )
        go (inr other) = (
          (λ e. elim (or_cases (is_given s j (kind_of rules x)) (stands_in (number x) found) (sym same ∙ e)) [
            | inl g ↦ (other_source S J (Holds rules S J x) (source_of x) other).0 ((given x listed moving).0 g)
            | inr g ↦ let r = f.sound x listed g in absurd (other (ap source_of (sym r.heads) ∙ head_plain r.instance r.listed))
          ]),
          (λ h. same ∙ or_left (is_given s j (kind_of rules x)) (stands_in (number x) found)
              ((given x listed moving).1 ((other_source S J (Holds rules S J x) (source_of x) other).1 h))),
        )

    module _ (done : List Instance) (i : Instance) (rest : List Instance) (found : List ℕ) (whole : done ++ i ∷ rest ≡ (listing rules).kept)
        (f : AreFound done found) where
      here : IsAmong i (listing rules).kept
      here = subst (λ (is : List Instance). IsAmong i is) whole (IsAmong-append_right i done (i ∷ rest) (inl refl))

      gate_told : (r : ℕ × Bool) → IsAmong r (gate rules i)
          → (is_right kinds s j found r.0 ≡ true) ↔ RightAs S J (Holds rules S J (atom_at (listing rules).atoms r.0))
          (source_of (atom_at (listing rules).atoms r.0))
      gate_told r a =
          let out = among_map_out (reading (listing rules).atoms) r (filter (is_read rules (listing rules).atoms) i.body) a in
          let l = out.0 in
          let k = among_filter (is_read rules (listing rules).atoms) l i.body out.1 in
          let x = atom_of l in
          let same : number x ≡ r.0 = sym (reading_number (listing rules).atoms l) ∙ sym (ap (λ (q : ℕ × Bool). q.0) out.2) in
          let listed : IsAmong x (listing rules).atoms = listed_below x (listing rules).atoms
          (subst (λ (n : ℕ). n < length (listing rules).atoms) (sym same) (gate_numbered rules w i here r a)) in
          let t = told done found f x listed (read_moving rules (listing rules).atoms l k.1)
          (λ plain. before rules w S J base input done i rest whole l k.0 plain) in
          subst (λ (n : ℕ). (is_right kinds s j found n ≡ true) ↔ RightAs S J (Holds rules S J (atom_at (listing rules).atoms n))
          (source_of (atom_at (listing rules).atoms n))) same
          (subst (λ (y : Atom). (is_right kinds s j found (number x) ≡ true) ↔ RightAs S J (Holds rules S J y) (source_of y))
          (sym (atom_found x (listing rules).atoms listed)) t)

      body_told : (all_right (is_right kinds s j found) (gate rules i) ≡ true) ↔ IsBodyRight rules S J i
      body_told =
          let g = all_told S J (λ y. Holds rules S J y) (listing rules).atoms (is_right kinds s j found) (gate rules i) gate_told in
          let k = gate_right rules w S J base input i here in
          ((λ e. k.0 (g.0 e)), (λ h. g.1 (k.1 h)))

      one_more : AreFound (done ++ i ∷ []) (cond (all_right (is_right kinds s j found) (gate rules i)) (number i.head ∷ found) found)
      one_more = go (all_right (is_right kinds s j found) (gate rules i)) refl
        where
          go : (b : Bool) → all_right (is_right kinds s j found) (gate rules i) ≡ b → AreFound (done ++ i ∷ []) (cond b (number i.head ∷ found) found)
          go true e = record {
            sound = λ x listed t. pick x listed (or_cases (number i.head == number x) (stands_in (number x) found) t);
            complete = λ k a r. which k r (IsAmong-append k done (i ∷ []) a);
          }
            where
              pick : (x : Atom) → IsAmong x (listing rules).atoms → ((number i.head == number x) ≡ true) ⊎ (stands_in (number x) found ≡ true)
                  → HasRightListed rules S J x
              pick x listed (inl t) =
                  let n = eqb-true (number i.head) (number x) t in
                  let same = sym (atom_found i.head (listing rules).atoms (head_listed i here)) ∙ ap (atom_at (listing rules).atoms) n
                  ∙ atom_found x (listing rules).atoms listed in
                  record { instance = i; listed = here; heads = same; right = body_told.0 e }
              pick x listed (inr t) = f.sound x listed t

              which : (k : Instance) → IsBodyRight rules S J k → IsAmong k done ⊎ ((k ≡ i) ⊎ ⊥)
                  → stands_in (number k.head) (number i.head ∷ found) ≡ true
              which k r (inl a) = or_right (number i.head == number k.head) (stands_in (number k.head) found) (f.complete k a r)
              which k r (inr (inl t)) =
                  or_left (number i.head == number k.head) (stands_in (number k.head) found)
                  (eq-eqb (number i.head) (number k.head) (ap (λ (q : Instance). number q.head) (sym t)))
              which k r (inr (inr z)) = absurd z
          go false e = record {
            sound = f.sound;
            complete = λ k a r. which k r (IsAmong-append k done (i ∷ []) a);
          }
            where
              which : (k : Instance) → IsBodyRight rules S J k → IsAmong k done ⊎ ((k ≡ i) ⊎ ⊥) → stands_in (number k.head) found ≡ true
              which k r (inl a) = f.complete k a r
              which k r (inr (inl t)) = let q = body_told.1 (subst (λ (u : Instance). IsBodyRight rules S J u) t r) in absurd cc
              which k r (inr (inr z)) = absurd z

    all_found : (done rest : List Instance) (found : List ℕ) → done ++ rest ≡ (listing rules).kept → AreFound done found
        → AreFound (listing rules).kept (found_by kinds s j found (map (numbered rules) rest))
    all_found done [] found whole f = subst (λ (is : List Instance). AreFound is found) (sym (append_nil done) ∙ whole) f
      where
        append_nil : (is : List Instance) → is ++ [] ≡ is
        append_nil [] = refl
        append_nil (i ∷ is) = ap (λ (ks : List Instance). i ∷ ks) (append_nil is)
    all_found done (i ∷ rest) found whole f =
        all_found (done ++ i ∷ []) rest (cond (all_right (is_right kinds s j found) (gate rules i)) (number i.head ∷ found) found)
        (append_assoc done (i ∷ []) rest ∙ whole)
        (one_more done i rest found whole f)

    pub numbers_exact : (x : Atom) → IsAmong x (listing rules).atoms → is_fixed rules (relation_of x) ≡ false
        → (holds kinds (map (numbered rules) (listing rules).kept) s j (number x) ≡ true) ↔ RightAs S J (Holds rules S J x) (source_of x)
    numbers_exact x listed moving =
        told (listing rules).kept (found_by kinds s j [] (map (numbered rules) (listing rules).kept))
        (all_found [] (listing rules).kept [] refl (record { sound = λ y a t. absurd cc; complete = λ k a. absurd a })) x listed moving
        (λ plain k a e. a)
