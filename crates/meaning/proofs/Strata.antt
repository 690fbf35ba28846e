-- Within strata, how many `not` are looked at does not matter past an atom's own stratum.
use Rattle.std.proofs.Common.{ℕ, zero, suc, ◌+◌, ◌≤◌, ◌<◌, false, ◌≡◌, ◌↔◌, List, refl, sym, ap, subst, ◌∙◌, arith}
use Rattle.statement.specs.Clause.{Atom, Literal, positive, negative, Alternative, Relation, relation_of, atom_of}
use Rattle.statement.specs.Dependence.{is_distinct}
use Rattle.statement.specs.Substitution.{Map, literal_under}
use Rattle.statement.specs.Meaning.{StateOfTerms, Joint, Source, now, does, distinct, ordinary, source_of, RightAs, IsDerivedIn}
use Rattle.meaning.proofs.Facts.{relation-under, ordinary_not_distinct}
use Rattle.meaning.specs.Derivable.{IsRightOver, IsDerivable, IsDerivableBelow, HoldsWhole, StandsBelow, AreStrata, IsStable}

right_along : (S : StateOfTerms) (J : Joint) (A B : Type 0) (k : Source) → (k ≡ ordinary → A → B) → RightAs S J A k → RightAs S J B k
right_along S J A B (now p) e h = h
right_along S J A B (does r m) e h = h
right_along S J A B (distinct s t) e h = h
right_along S J A B ordinary e h = e refl h

module _ (rules : List Alternative) (S : StateOfTerms) (J : Joint) (stratum : Relation → ℕ) (strata : AreStrata rules stratum) where
  -- the same below a stratum
  abbrev pub AgreeBelow : ℕ → (Atom → Type 0) → (Atom → Type 0) → Type 0
  AgreeBelow k N M = (y : Atom) → stratum (relation_of y) < k → N y ↔ M y

  -- a literal of a rule of the head stays right
  still : (k : ℕ) (N M H G : Atom → Type 0) → AgreeBelow k N M → ((y : Atom) → stratum (relation_of y) < suc k → H y → G y)
      → (p : Relation) → stratum p < suc k → (l : Literal)
      → (is_distinct (relation_of (atom_of l)) ≡ false → StandsBelow stratum p l) → IsRightOver S J N H l → IsRightOver S J M G l
  still k N M H G agree below p low (positive y) stands h =
      right_along S J (H y) (G y) (source_of y)
      (λ plain. let le = stands (ordinary_not_distinct y plain) in below y (omega (arith, le, low))) h
  still k N M H G agree below p low (negative y) stands h =
      λ r. h (right_along S J (M y) (N y) (source_of y)
      (λ plain. let lt = stands (ordinary_not_distinct y plain) in (agree y (omega (arith, lt, low))).1) r)

  under : (m : Map) (p : Relation) (l : Literal) → (is_distinct (relation_of (atom_of l)) ≡ false → StandsBelow stratum p l)
      → is_distinct (relation_of (atom_of (literal_under m l))) ≡ false → StandsBelow stratum p (literal_under m l)
  under m p (positive a) stands other =
      subst (λ (q : Relation). stratum q ≤ stratum p) (sym (relation-under m a))
      (stands (subst (λ (q : Relation). is_distinct q ≡ false) (relation-under m a) other))
  under m p (negative a) stands other =
      subst (λ (q : Relation). stratum q < stratum p) (sym (relation-under m a))
      (stands (subst (λ (q : Relation). is_distinct q ≡ false) (relation-under m a) other))

  -- a derivation below a stratum stays one where what holds behind a `not` is the same below it
  pub again : (k : ℕ) (N M : Atom → Type 0) → AgreeBelow k N M → (n : ℕ) (x : Atom) → stratum (relation_of x) < suc k
      → IsDerivedIn rules (IsRightOver S J N) n x → IsDerivedIn rules (IsRightOver S J M) n x
  again k N M agree zero x low d = d
  again k N M agree (suc n) x low d = record {
    rule = d.rule;
    map = d.map;
    is_rule = d.is_rule;
    maps_to_ground = d.maps_to_ground;
    heads = d.heads;
    fits = λ l in_body. still k N M (IsDerivedIn rules (IsRightOver S J N) n) (IsDerivedIn rules (IsRightOver S J M) n) agree
        (λ y lower. again k N M agree n y lower) (relation_of x) low (literal_under d.map l)
        (under d.map (relation_of x) l (λ other. subst (λ (q : Relation). StandsBelow stratum q l)
        (sym (relation-under d.map d.rule.head) ∙ ap relation_of d.heads) (strata d.rule d.is_rule l in_body other))) (d.fits l in_body);
  }

  turned : (k : ℕ) (N M : Atom → Type 0) → AgreeBelow k N M → AgreeBelow k M N
  turned k N M agree = λ y low. ((agree y low).1, (agree y low).0)

  pub derivable_again : (k : ℕ) (N M : Atom → Type 0) → AgreeBelow k N M → AgreeBelow (suc k) (IsDerivable rules S J N) (IsDerivable rules S J M)
  derivable_again k N M agree = λ y low. (
    λ d. (d.0, again k N M agree d.0 y low d.1),
    λ d. (d.0, again k M N (turned k N M agree) d.0 y low d.1),
  )

  -- past its own stratum
  pub settled : (k i j : ℕ) → k ≤ i → k ≤ j → AgreeBelow k (IsDerivableBelow rules S J i) (IsDerivableBelow rules S J j)
  settled zero i j a b = λ y low. absurd (omega (arith, low))
  settled (suc k) zero j a b = absurd (omega (arith, a))
  settled (suc k) (suc i) zero a b = absurd (omega (arith, b))
  settled (suc k) (suc i) (suc j) a b =
      derivable_again k (IsDerivableBelow rules S J i) (IsDerivableBelow rules S J j) (settled k i j (omega (arith, a)) (omega (arith, b)))

  -- what holds is what is derivable with as many `not` looked at as the stratum says
  pub holds_at : (k : ℕ) → AgreeBelow k (HoldsWhole rules S J) (IsDerivableBelow rules S J k)
  holds_at k = λ y low. (
    λ h. (settled k (h.0 + k) k (omega arith) (omega arith) y low).0 (h.1 (h.0 + k) (omega arith)),
    λ d. (k, λ j le. (settled k k j (omega arith) le y low).0 d),
  )

  -- what holds is stable, and nothing else is
  pub stable : IsStable rules S J (HoldsWhole rules S J)
  stable = λ x.
      let k = stratum (relation_of x) in
      let one = holds_at (suc k) x (omega arith) in
      let two = derivable_again k (IsDerivableBelow rules S J k) (HoldsWhole rules S J)
      (turned k (HoldsWhole rules S J) (IsDerivableBelow rules S J k) (holds_at k)) x (omega arith) in
      (λ h. two.0 (one.0 h), λ d. one.1 (two.1 d))

  only_below : (H : Atom → Type 0) → IsStable rules S J H → (k : ℕ) → AgreeBelow k H (IsDerivableBelow rules S J k)
  only_below H law zero = λ y low. absurd (omega (arith, low))
  only_below H law (suc k) = λ y low.
      let two = derivable_again k H (IsDerivableBelow rules S J k) (only_below H law k) y low in
      (λ h. two.0 ((law y).0 h), λ d. (law y).1 (two.1 d))

  pub only_stable : (H : Atom → Type 0) → IsStable rules S J H → (x : Atom) → H x ↔ HoldsWhole rules S J x
  only_stable H law x =
      let k = suc (stratum (relation_of x)) in
      let one = only_below H law k x (omega arith) in
      let two = holds_at k x (omega arith) in
      (λ h. two.1 (one.0 h), λ d. one.1 (two.0 d))
