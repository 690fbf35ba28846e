-- Own relations of which what is said is founded: what holds of them is what their rules derive, in every state.
use Rattle.std.proofs.Common.{ℕ, zero, suc, Bool, true, false, ◌≡◌, ◌↔◌, List, refl, sym, ap, ◌∙◌}
use Rattle.statement.specs.Tree.{Tree}
use Rattle.statement.specs.Clause.{Atom, Literal, positive, negative, Alternative, Relation, relation_of, atom_of}
use Rattle.statement.specs.Dependence.{IsAmong, is_distinct, is_moving, DependsDirectly, IsAcyclic, IsFixed}
use Rattle.statement.specs.Substitution.{Map, atom_under, literal_under}
use Rattle.statement.specs.Meaning.{StateOfTerms, Joint, Source, now, does, distinct, ordinary, source_of, RightAs, IsRight, IsDerived, IsDerivedIn, Holds, HoldsAlways, nothing, nobody}
use Rattle.meaning.specs.Kept.{PossibleAs, UndecidedAs, Keeps, HeadsKept}
use Rattle.meaning.proofs.Facts.{relation-under, relation-literal_under, ordinary_not_distinct, now_is, does_is, fixed_alike}
use Rattle.meaning.specs.Derivable.{IsRightOver, IsDerivable}
use Rattle.meaning.specs.Extension.{AreFounded, IsAnswered}

moving_now : (y : Atom) (p : Tree) → source_of y ≡ now p → is_moving (relation_of y) ≡ true
moving_now y p e = ap (λ (x : Atom). is_moving (relation_of x)) (now_is y p e)

moving_does : (y : Atom) (r m : Tree) → source_of y ≡ does r m → is_moving (relation_of y) ≡ true
moving_does y r m e = ap (λ (x : Atom). is_moving (relation_of x)) (does_is y r m e)

-- an atom of a relation that does not move is right alike wherever what is ordinary holds alike
still_right : (S T : StateOfTerms) (J K : Joint) (A B : Type 0) (y : Atom) → (is_distinct (relation_of y) ≡ false → is_moving (relation_of y) ≡ false)
    → (source_of y ≡ ordinary → A → B) → RightAs S J A (source_of y) → RightAs T K B (source_of y)
still_right S T J K A B y still same = go (source_of y) refl
  where
    not_distinct : is_moving (relation_of y) ≡ true → is_distinct (relation_of y) ≡ false → ⊥
    not_distinct moves other = let stays = still other in let bad : ⊥ = cc in bad

    go : (k : Source) → source_of y ≡ k → RightAs S J A k → RightAs T K B k
    go (now p) e h = absurd (not_distinct (moving_now y p e) (ap (λ (x : Atom). is_distinct (relation_of x)) (now_is y p e)))
    go (does r m) e h = absurd (not_distinct (moving_does y r m e) (ap (λ (x : Atom). is_distinct (relation_of x)) (does_is y r m e)))
    go (distinct s t) e h = h
    go ordinary e h = same e h

module _ (rules out : List Alternative) (own : Relation → Bool) (f : AreFounded rules out own) where
  head_of : (rule : Alternative) (m : Map) (x : Atom) → atom_under m rule.head ≡ x → relation_of rule.head ≡ relation_of x
  head_of rule m x heads = sym (relation-under m rule.head) ∙ ap relation_of heads

  -- what a literal of a rule of an own relation asks is an own relation, which does not move
  own_asked : (rule : Alternative) → IsAmong rule rules → own (relation_of rule.head) ≡ true → (l : Literal) → IsAmong l rule.body → (m : Map)
      → is_distinct (relation_of (atom_of (literal_under m l))) ≡ false → own (relation_of (atom_of (literal_under m l))) ≡ true
  own_asked rule is_rule is_own l in_body m other =
      let same = relation-literal_under m l in
      ap own same ∙ f.below rule is_rule is_own l in_body (ap is_distinct (sym same) ∙ other)

  own_still : (p : Relation) → own p ≡ true → is_moving p ≡ false
  own_still p is_own = (f.fixed p is_own).itself

  own_step : (p q : Relation) → own p ≡ true → DependsDirectly rules p q → own q ≡ true
  own_step p q is_own d =
      ap own (sym d.names) ∙ f.below d.rule d.is_rule (ap own d.heads ∙ is_own) d.literal d.in_body (ap is_distinct d.names ∙ d.not_distinct)

  -- an own atom follows by rules whose literals, where they fit, are right without state and move
  own_closed : (Fits : Literal → Type 0)
      → ((l : Literal) → (is_distinct (relation_of (atom_of l)) ≡ false → own (relation_of (atom_of l)) ≡ true)
      → Fits l → IsRight nothing nobody (HoldsAlways out) l)
      → (x : Atom) → own (relation_of x) ≡ true → IsDerived rules Fits x → HoldsAlways out x
  own_closed Fits right x is_own d = f.closed x is_own (record {
    rule = d.rule;
    map = d.map;
    is_rule = d.is_rule;
    maps_to_ground = d.maps_to_ground;
    heads = d.heads;
    fits = λ l in_body. right (literal_under d.map l)
        (λ other. own_asked d.rule d.is_rule (ap own (head_of d.rule d.map x d.heads) ∙ is_own) l in_body d.map other) (d.fits l in_body);
  })

  module _ (acyclic : IsAcyclic out) where
    module _ (S : StateOfTerms) (J : Joint) where
      -- an own atom holds as it does always
      own_here : (y : Atom) → own (relation_of y) ≡ true → HoldsAlways out y → Holds out S J y
      own_here y is_own h = (fixed_alike out acyclic S nothing J nobody (relation_of y) (f.fixed (relation_of y) is_own) y refl).1 h

      own_always : (y : Atom) → own (relation_of y) ≡ true → Holds out S J y → HoldsAlways out y
      own_always y is_own h = (fixed_alike out acyclic S nothing J nobody (relation_of y) (f.fixed (relation_of y) is_own) y refl).0 h

      -- a literal of a rule of an own relation
      own_right : (l : Literal) → (is_distinct (relation_of (atom_of l)) ≡ false → own (relation_of (atom_of l)) ≡ true)
          → IsRight S J (Holds out S J) l → IsRight nothing nobody (HoldsAlways out) l
      own_right (positive y) is_own h =
          still_right S nothing J nobody (Holds out S J y) (HoldsAlways out y) y (λ other. own_still (relation_of y) (is_own other))
          (λ plain k. own_always y (is_own (ordinary_not_distinct y plain)) k) h
      own_right (negative y) is_own h =
          λ r. h (still_right nothing S nobody J (HoldsAlways out y) (Holds out S J y) y (λ other. own_still (relation_of y) (is_own other))
          (λ plain k. own_here y (is_own (ordinary_not_distinct y plain)) k) r)

      -- a derivation of an own atom is one here
      own_over : (n : ℕ) → ((y : Atom) → own (relation_of y) ≡ true → IsDerivedIn rules (IsRightOver nothing nobody (HoldsAlways out)) n y
          → IsDerivedIn rules (IsRightOver S J (Holds out S J)) n y)
          → (l : Literal) → (is_distinct (relation_of (atom_of l)) ≡ false → own (relation_of (atom_of l)) ≡ true)
          → IsRightOver nothing nobody (HoldsAlways out) (IsDerivedIn rules (IsRightOver nothing nobody (HoldsAlways out)) n) l
          → IsRightOver S J (Holds out S J) (IsDerivedIn rules (IsRightOver S J (Holds out S J)) n) l
      own_over n below (positive y) is_own h =
          still_right nothing S nobody J (IsDerivedIn rules (IsRightOver nothing nobody (HoldsAlways out)) n y)
          (IsDerivedIn rules (IsRightOver S J (Holds out S J)) n y) y (λ other. own_still (relation_of y) (is_own other))
          (λ plain k. below y (is_own (ordinary_not_distinct y plain)) k) h
      own_over n below (negative y) is_own h =
          λ r. h (still_right S nothing J nobody (Holds out S J y) (HoldsAlways out y) y (λ other. own_still (relation_of y) (is_own other))
          (λ plain k. own_always y (is_own (ordinary_not_distinct y plain)) k) r)

      own_derived : (n : ℕ) (x : Atom) → own (relation_of x) ≡ true → IsDerivedIn rules (IsRightOver nothing nobody (HoldsAlways out)) n x
          → IsDerivedIn rules (IsRightOver S J (Holds out S J)) n x
      own_derived zero x is_own d = absurd d
      own_derived (suc n) x is_own d = record {
        rule = d.rule;
        map = d.map;
        is_rule = d.is_rule;
        maps_to_ground = d.maps_to_ground;
        heads = d.heads;
        fits = λ l in_body. own_over n (λ y o k. own_derived n y o k) (literal_under d.map l)
            (λ other. own_asked d.rule d.is_rule (ap own (head_of d.rule d.map x d.heads) ∙ is_own) l in_body d.map other) (d.fits l in_body);
      }

      derivable_here : (x : Atom) → own (relation_of x) ≡ true → Holds out S J x → IsDerivable rules S J (Holds out S J) x
      derivable_here x is_own h = let d = f.founded x is_own (own_always x is_own h) in (d.0, own_derived d.0 x is_own d.1)

    -- a literal of a rule of an own relation that keeps its instance is right
    own_kept : (l : Literal) → (is_distinct (relation_of (atom_of l)) ≡ false → own (relation_of (atom_of l)) ≡ true)
        → Keeps out (HeadsKept out) l → IsRight nothing nobody (HoldsAlways out) l
    own_kept (positive y) is_own keeps = go (source_of y) refl keeps
      where
        never : is_moving (relation_of y) ≡ true → is_distinct (relation_of y) ≡ false → ⊥
        never moves other = let stays = own_still (relation_of y) (is_own other) in let bad : ⊥ = cc in bad

        go : (k : Source) → source_of y ≡ k → PossibleAs out (IsFixed out (relation_of y)) (HoldsAlways out y) (HeadsKept out y) k
            → RightAs nothing nobody (HoldsAlways out y) k
        go (now p) e m = absurd (never (moving_now y p e) (ap (λ (x : Atom). is_distinct (relation_of x)) (now_is y p e)))
        go (does r t) e m = absurd (never (moving_does y r t e) (ap (λ (x : Atom). is_distinct (relation_of x)) (does_is y r t e)))
        go (distinct s t) e m = m
        go ordinary e m = m.0 (f.fixed (relation_of y) (is_own (ordinary_not_distinct y e)))
    own_kept (negative y) is_own keeps = go (source_of y) refl keeps
      where
        go : (k : Source) → source_of y ≡ k → UndecidedAs (IsFixed out (relation_of y)) (HoldsAlways out y) k
            → RightAs nothing nobody (HoldsAlways out y) k → ⊥
        go (now p) e m r = let bad : ⊥ = cc in bad
        go (does t u) e m r = let bad : ⊥ = cc in bad
        go (distinct s t) e m r = m r
        go ordinary e m r = m (f.fixed (relation_of y) (is_own (ordinary_not_distinct y e))) r

    pub answered : ((x : Atom) → IsFixed out (relation_of x) → HeadsKept out x ↔ HoldsAlways out x) → IsAnswered rules out own
    answered kept = record {
      closed = λ S J base inputs x is_own d.
          own_here S J x is_own (own_closed (IsRight S J (Holds out S J)) (own_right S J) x is_own d);
      comes = λ x is_own d.
          (kept x (f.fixed (relation_of x) is_own)).1 (own_closed (Keeps out (HeadsKept out)) own_kept x is_own d);
      founded = λ S J x is_own h below. derivable_here S J x is_own h;
      still = λ p q is_own fixed d. f.fixed q (own_step p q is_own d);
    }
