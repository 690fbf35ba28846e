-- Derivations of some height, and one more rule.
use Rattle.std.proofs.Common.{ℕ, zero, suc, ◌+◌, ◌≤◌, ◌↔◌, List, [], ◌∷◌, refl, sym, subst, inl, inr, arith}
use Rattle.statement.specs.Clause.{Atom, Literal, positive, negative, Alternative}
use Rattle.statement.specs.Dependence.{IsAmong}
use Rattle.statement.specs.Substitution.{Map, literal_under}
use Rattle.statement.specs.Meaning.{StateOfTerms, Joint, Source, now, does, distinct, ordinary, source_of, RightAs, IsRight, IsDerived, IsDerivedIn}
use Rattle.meaning.specs.Derivable.{IsRightOver, IsDerivable, IsStable}

right_along : (S : StateOfTerms) (J : Joint) (A B : Type 0) (k : Source) → (A → B) → RightAs S J A k → RightAs S J B k
right_along S J A B (now p) e h = h
right_along S J A B (does r m) e h = h
right_along S J A B (distinct s t) e h = h
right_along S J A B ordinary e h = e h

module _ (rules : List Alternative) (S : StateOfTerms) (J : Joint) (N : Atom → Type 0) where
  abbrev Fits : (Atom → Type 0) → Literal → Type 0
  Fits H l = IsRightOver S J N H l

  abbrev In : ℕ → Atom → Type 0
  In n x = IsDerivedIn rules (IsRightOver S J N) n x

  pub more_fits : (H G : Atom → Type 0) → ((y : Atom) → H y → G y) → (l : Literal) → IsRightOver S J N H l → IsRightOver S J N G l
  more_fits H G more (positive y) h = right_along S J (H y) (G y) (source_of y) (more y) h
  more_fits H G more (negative y) h = h

  pub derived_more : (H G : Atom → Type 0) → ((y : Atom) → H y → G y) → (x : Atom)
      → IsDerived rules (IsRightOver S J N H) x → IsDerived rules (IsRightOver S J N G) x
  derived_more H G more x d = record {
    rule = d.rule;
    map = d.map;
    is_rule = d.is_rule;
    maps_to_ground = d.maps_to_ground;
    heads = d.heads;
    fits = λ l in_body. more_fits H G more (literal_under d.map l) (d.fits l in_body);
  }

  pub higher : (n m : ℕ) → n ≤ m → (x : Atom) → In n x → In m x
  higher zero m le x d = absurd d
  higher (suc n) zero le x d = absurd (omega (arith, le))
  higher (suc n) (suc m) le x d = derived_more (In n) (In m) (λ y. higher n m (omega (arith, le)) y) x d

  -- one literal, at a height
  one_fits : (l : Literal) → IsRightOver S J N (IsDerivable rules S J N) l → (n : ℕ) × IsRightOver S J N (In n) l
  one_fits (negative y) h = (zero, h)
  one_fits (positive y) h = go (source_of y) h
    where
      go : (k : Source) → RightAs S J (IsDerivable rules S J N y) k → (n : ℕ) × RightAs S J (In n y) k
      go (now p) r = (zero, r)
      go (does p m) r = (zero, r)
      go (distinct s t) r = (zero, r)
      go ordinary r = (r.0, r.1)

  -- all literals of a body, at one height
  all_fit : (m : Map) (ls : List Literal) → ((l : Literal) → IsAmong l ls → IsRightOver S J N (IsDerivable rules S J N) (literal_under m l))
      → (n : ℕ) × ((l : Literal) → IsAmong l ls → IsRightOver S J N (In n) (literal_under m l))
  all_fit m [] h = (zero, λ l no_one. absurd no_one)
  all_fit m (l ∷ ls) h =
      let a = one_fits (literal_under m l) (h l (inl refl)) in
      let b = all_fit m ls (λ k in_rest. h k (inr in_rest)) in
      (a.0 + b.0, λ k among. go a.0 b.0 a.1 b.1 k among)
    where
      go : (i j : ℕ) → IsRightOver S J N (In i) (literal_under m l)
          → ((k : Literal) → IsAmong k ls → IsRightOver S J N (In j) (literal_under m k))
          → (k : Literal) → IsAmong k (l ∷ ls) → IsRightOver S J N (In (i + j)) (literal_under m k)
      go i j one rest k (inl e) =
          more_fits (In i) (In (i + j)) (λ y. higher i (i + j) (omega arith) y) (literal_under m k)
          (subst (λ (q : Literal). IsRightOver S J N (In i) (literal_under m q)) (sym e) one)
      go i j one rest k (inr among) = more_fits (In j) (In (i + j)) (λ y. higher j (i + j) (omega arith) y) (literal_under m k) (rest k among)

  -- to be derivable is to be derived by a rule from what is
  pub derivable_by_a_rule : (x : Atom) → IsDerivable rules S J N x ↔ IsDerived rules (IsRightOver S J N (IsDerivable rules S J N)) x
  derivable_by_a_rule x = (λ d. down d.0 d.1, up)
    where
      down : (n : ℕ) → In n x → IsDerived rules (IsRightOver S J N (IsDerivable rules S J N)) x
      down zero d = absurd d
      down (suc n) d = derived_more (In n) (IsDerivable rules S J N) (λ y h. (n, h)) x d

      up : IsDerived rules (IsRightOver S J N (IsDerivable rules S J N)) x → IsDerivable rules S J N x
      up d =
          let a = all_fit d.map d.rule.body d.fits in (
            suc a.0,
            record {
              rule = d.rule;
              map = d.map;
              is_rule = d.is_rule;
              maps_to_ground = d.maps_to_ground;
              heads = d.heads;
              fits = a.1;
            },
          )

  -- what is derivable where it itself holds behind a `not`
  right_as : (l : Literal) (H : Atom → Type 0) → ((y : Atom) → H y ↔ N y) → IsRightOver S J N H l ↔ IsRight S J N l
  right_as (positive y) H same = (right_along S J (H y) (N y) (source_of y) (same y).0, right_along S J (N y) (H y) (source_of y) (same y).1)
  right_as (negative y) H same = (λ h. h, λ h. h)

  derived_as : (H : Atom → Type 0) → ((y : Atom) → H y ↔ N y) → (x : Atom)
      → IsDerived rules (IsRightOver S J N H) x ↔ IsDerived rules (IsRight S J N) x
  derived_as H same x = (
    λ d. record {
      rule = d.rule;
      map = d.map;
      is_rule = d.is_rule;
      maps_to_ground = d.maps_to_ground;
      heads = d.heads;
      fits = λ l in_body. (right_as (literal_under d.map l) H same).0 (d.fits l in_body);
    },
    λ d. record {
      rule = d.rule;
      map = d.map;
      is_rule = d.is_rule;
      maps_to_ground = d.maps_to_ground;
      heads = d.heads;
      fits = λ l in_body. (right_as (literal_under d.map l) H same).1 (d.fits l in_body);
    },
  )

  pub stable_by_a_rule : IsStable rules S J N → (x : Atom) → N x ↔ IsDerived rules (IsRight S J N) x
  stable_by_a_rule law x =
      let same : (y : Atom) → IsDerivable rules S J N y ↔ N y = λ y. ((law y).1, (law y).0) in
      let one = derivable_by_a_rule x in
      let two = derived_as (IsDerivable rules S J N) same x in
      (λ h. two.0 (one.0 ((law x).0 h)), λ d. (law x).1 (one.1 (two.1 d)))
