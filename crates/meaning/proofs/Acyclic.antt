-- Where no relation depends on itself, what holds in the whole language is what holds in today's profile.
use Rattle.std.proofs.Common.{ℕ, zero, suc, ◌<◌, false, ◌≡◌, ◌↔◌, List, refl, sym, ap, subst, ◌∙◌, arith}
use Rattle.statement.specs.Clause.{Atom, Literal, positive, negative, Alternative, Relation, relation_of, atom_of}
use Rattle.statement.specs.Dependence.{IsAmong, is_distinct, DependsDirectly}
use Rattle.statement.specs.Order.{rank}
use Rattle.statement.specs.Substitution.{Map, literal_under}
use Rattle.statement.specs.Meaning.{StateOfTerms, Joint, Source, now, does, distinct, ordinary, source_of, RightAs, IsRight, IsDerived, IsDerivedIn, Holds}
use Rattle.meaning.proofs.Facts.{relation-under, relation-literal_under, ordinary_not_distinct}
use Rattle.meaning.specs.Derivable.{IsRightOver, AreStrata, HoldsWhole, IsStable}
use Rattle.meaning.proofs.Strata.{only_stable}

abbrev pub RanksFall : List Alternative → Type 0
RanksFall rules = (p q : Relation) → DependsDirectly rules p q → rank rules q < rank rules p

abbrev pub HasLaw : List Alternative → StateOfTerms → Joint → Type 0
HasLaw rules S J = (x : Atom) → Holds rules S J x ↔ IsDerived rules (IsRight S J (Holds rules S J)) x

pub direct_of : (rules : List Alternative) (rule : Alternative) → IsAmong rule rules → (l : Literal) → IsAmong l rule.body
    → is_distinct (relation_of (atom_of l)) ≡ false → DependsDirectly rules (relation_of rule.head) (relation_of (atom_of l))
direct_of rules rule is_rule l in_body other = record {
  rule = rule;
  literal = l;
  is_rule = is_rule;
  heads = refl;
  in_body = in_body;
  names = refl;
  not_distinct = other;
}

pub rank_strata : (rules : List Alternative) → RanksFall rules → AreStrata rules (rank rules)
rank_strata rules fall rule is_rule (positive y) in_body other =
    let lt = fall (relation_of rule.head) (relation_of y) (direct_of rules rule is_rule (positive y) in_body other) in omega (arith, lt)
rank_strata rules fall rule is_rule (negative y) in_body other =
    fall (relation_of rule.head) (relation_of y) (direct_of rules rule is_rule (negative y) in_body other)

module _ (rules : List Alternative) (fall : RanksFall rules) (S : StateOfTerms) (J : Joint) (law : HasLaw rules S J) where
  abbrev H : Atom → Type 0
  H x = Holds rules S J x

  abbrev In : ℕ → Atom → Type 0
  In n x = IsDerivedIn rules (IsRightOver S J H) n x

  along : (A B : Type 0) (k : Source) → (k ≡ ordinary → A → B) → RightAs S J A k → RightAs S J B k
  along A B (now p) e h = h
  along A B (does r m) e h = h
  along A B (distinct s t) e h = h
  along A B ordinary e h = e refl h

  -- each derivation is sound
  sound_literal : (n : ℕ) → ((y : Atom) → In n y → H y) → (l : Literal) → IsRightOver S J H (In n) l → IsRight S J H l
  sound_literal n below (positive y) h = along (In n y) (H y) (source_of y) (λ plain. below y) h
  sound_literal n below (negative y) h = h

  sound : (n : ℕ) (x : Atom) → In n x → H x
  sound zero x d = absurd d
  sound (suc n) x d = (law x).1 (record {
    rule = d.rule;
    map = d.map;
    is_rule = d.is_rule;
    maps_to_ground = d.maps_to_ground;
    heads = d.heads;
    fits = λ l in_body. sound_literal n (λ y. sound n y) (literal_under d.map l) (d.fits l in_body);
  })

  -- what holds has a derivation as high as its rank
  full_literal : (k : ℕ) (p : Relation) → rank rules p < suc k → ((y : Atom) → rank rules (relation_of y) < k → H y → In k y)
      → (l : Literal) → (is_distinct (relation_of (atom_of l)) ≡ false → rank rules (relation_of (atom_of l)) < rank rules p)
      → IsRight S J H l → IsRightOver S J H (In k) l
  full_literal k p low below (positive y) falls h =
      along (H y) (In k y) (source_of y) (λ plain. let lt = falls (ordinary_not_distinct y plain) in below y (omega (arith, lt, low))) h
  full_literal k p low below (negative y) falls h = h

  full : (k : ℕ) (x : Atom) → rank rules (relation_of x) < k → H x → In k x
  full zero x low h = absurd (omega (arith, low))
  full (suc k) x low h =
      let d = (law x).0 h in
      let e = sym (relation-under d.map d.rule.head) ∙ ap relation_of d.heads in record {
        rule = d.rule;
        map = d.map;
        is_rule = d.is_rule;
        maps_to_ground = d.maps_to_ground;
        heads = d.heads;
        fits = λ l in_body. full_literal k (relation_of x) low (λ y. full k y) (literal_under d.map l)
            (λ other. falls d.rule d.map d.is_rule l in_body e other) (d.fits l in_body);
      }
    where
      falls : (rule : Alternative) (m : Map) → IsAmong rule rules → (l : Literal) → IsAmong l rule.body → relation_of rule.head ≡ relation_of x
          → is_distinct (relation_of (atom_of (literal_under m l))) ≡ false
          → rank rules (relation_of (atom_of (literal_under m l))) < rank rules (relation_of x)
      falls rule m is_rule l in_body e other =
          let q = relation_of (atom_of l) in
          let same = relation-literal_under m l in
          let plain : is_distinct q ≡ false = subst (λ (r : Relation). is_distinct r ≡ false) same other in
          let lt = fall (relation_of rule.head) q (direct_of rules rule is_rule l in_body plain) in
          subst (λ (r : Relation). rank rules r < rank rules (relation_of x)) (sym same)
          (subst (λ (r : Relation). rank rules q < rank rules r) e lt)

  holds_stable : IsStable rules S J H
  holds_stable = λ x. (
    λ h. (suc (rank rules (relation_of x)), full (suc (rank rules (relation_of x))) x (omega arith) h),
    λ d. sound d.0 x d.1,
  )

  pub same_meaning : (x : Atom) → Holds rules S J x ↔ HoldsWhole rules S J x
  same_meaning x = only_stable rules S J (rank rules) (rank_strata rules fall) H holds_stable x
