-- Within `Base` and `Input`, what holds is derived by kept instances alone.
use Rattle.std.proofs.Common.{ℕ, zero, suc, Bool, true, false, ◌&&◌, cond, ◌≡◌, ◌⊎◌, ◌↔◌, inl, inr, List, length, refl, sym, subst}
use Rattle.statement.specs.Tree.{Tree, Trees, no_trees, tree, name_eq}
use Rattle.kif.proofs.Facts.{name_eq_yes}
use Rattle.statement.specs.Words.{w_true, w_does, w_distinct}
use Rattle.statement.specs.Clause.{Atom, Literal, positive, negative, Alternative, Relation, relation_of, count_trees, atom_of}
use Rattle.statement.specs.Dependence.{is_distinct, is_moving, DependsDirectly, IsAcyclic, IsFixed}
use Rattle.rules_profile.proofs.Facts.{IsHead, along_dependence}
use Rattle.statement.specs.Substitution.{literal_under}
use Rattle.statement.specs.Meaning.{StateOfTerms, Joint, Source, now, does, distinct, ordinary, source_at, source_of, RightAs, IsRight, IsDerived, Holds, nothing, nobody, IsWithinBase, IsWithinInput}
use Rattle.meaning.specs.Kept.{PossibleAs, UndecidedAs, Keeps, HeadsKept, HasRightInstance}
use Rattle.meaning.proofs.Derivations.{IsLocal, IsRight-local, derived_by_a_rule, derived_heads, derivation_again, ordinary_at, ordinary_not_distinct}

-- an atom is a `distinct`, or else it is ordinary or its relation is one that moves
abbrev pub IsSorted : Source → Relation → Type 0
IsSorted k p = ((s : Tree) × (t : Tree) × (k ≡ distinct s t)) ⊎ ((is_distinct p ≡ false) × ((k ≡ ordinary) ⊎ (is_moving p ≡ true)))

pub sorted_at : (w : List ℕ) (ts : Trees) → IsSorted (source_at w ts) (record { word = w; arity = count_trees ts })
sorted_at w no_trees = inr (ordinary_at w no_trees refl, inl refl)
sorted_at w (tree t no_trees) = go (name_eq w w_true) refl
  where
    go : (b : Bool) → name_eq w w_true ≡ b → IsSorted (cond b (now t) ordinary) (record { word = w; arity = 1 })
    go true e =
        let same = name_eq_yes w w_true e in
        inr (
          subst (λ (v : List ℕ). is_distinct (record { word = v; arity = 1 }) ≡ false) (sym same) refl,
          inr (subst (λ (v : List ℕ). is_moving (record { word = v; arity = 1 }) ≡ true) (sym same) refl),
        )
    go false e = inr (plain (name_eq w w_distinct), inl refl)
      where
        plain : (b : Bool) → (b && false) ≡ false
        plain true = refl
        plain false = refl
sorted_at w (tree t (tree u no_trees)) = go (name_eq w w_does) (name_eq w w_distinct) refl refl
  where
    go : (a b : Bool) → name_eq w w_does ≡ a → name_eq w w_distinct ≡ b
        → IsSorted (cond a (does t u) (cond b (distinct t u) ordinary)) (record { word = w; arity = 2 })
    go true b e f =
        let same = name_eq_yes w w_does e in
        inr (
          subst (λ (v : List ℕ). is_distinct (record { word = v; arity = 2 }) ≡ false) (sym same) refl,
          inr (subst (λ (v : List ℕ). is_moving (record { word = v; arity = 2 }) ≡ true) (sym same) refl),
        )
    go false true e f = inl (t, u, refl)
    go false false e f = inr (rw f refl, inl refl)
sorted_at w (tree t (tree u (tree v vs))) = inr (ordinary_at w (tree t (tree u (tree v vs))) refl, inl refl)

-- an atom that doesn't move is right in one context where it is right in another
pub right_elsewhere : (S S' : StateOfTerms) (J J' : Joint) (A B : Type 0) (k : Source) (p : Relation) → IsSorted k p
    → (is_distinct p ≡ false → is_moving p ≡ false) → (k ≡ ordinary → is_distinct p ≡ false → A ↔ B) → RightAs S J A k ↔ RightAs S' J' B k
right_elsewhere S S' J J' A B k p (inl test) still same =
    subst (λ (j : Source). RightAs S J A j ↔ RightAs S' J' B j) (sym test.2) ((λ h. h), (λ h. h))
right_elsewhere S S' J J' A B k p (inr (other, inl plain)) still same =
    subst (λ (j : Source). RightAs S J A j ↔ RightAs S' J' B j) (sym plain) (same plain other)
right_elsewhere S S' J J' A B k p (inr (other, inr moves)) still same =
    let stays = still other in absurd cc

module _ (rules : List Alternative) (acyclic : IsAcyclic rules) where
  abbrev Alike : (S S' : StateOfTerms) (J J' : Joint) → ℕ → Relation → Type 0
  Alike S S' J J' k p = IsFixed rules p → (x : Atom) → relation_of x ≡ p → Holds rules S J x ↔ Holds rules S' J' x

  -- atoms of fixed relations hold in every context or in none
  pub fixed_alike : (S S' : StateOfTerms) (J J' : Joint) (p : Relation) → Alike S S' J J' (length rules) p
  fixed_alike S S' J J' = along_dependence rules acyclic (Alike S S' J J') none step
    where
      by_rule : (T : StateOfTerms) (K : Joint) (x : Atom) → Holds rules T K x ↔ IsDerived rules (IsRight T K (Holds rules T K)) x
      by_rule T K x = derived_by_a_rule rules acyclic (IsRight T K) (IsRight-local T K) x

      none : (p : Relation) → (IsHead rules p → ⊥) → Alike S S' J J' zero p
      none p headless fixed x e = (
        (λ h. absurd (headless (subst (λ (q : Relation). IsHead rules q) e (derived_heads rules _ x ((by_rule S J x).0 h))))),
        (λ h. absurd (headless (subst (λ (q : Relation). IsHead rules q) e (derived_heads rules _ x ((by_rule S' J' x).0 h))))),
      )

      right : (k : ℕ) (p : Relation) → ((q : Relation) → DependsDirectly rules p q → Alike S S' J J' k q) → IsFixed rules p
          → (l : Literal) → (is_distinct (relation_of (atom_of l)) ≡ false → DependsDirectly rules p (relation_of (atom_of l)))
          → RightAs S J (Holds rules S J (atom_of l)) (source_of (atom_of l)) ↔ RightAs S' J' (Holds rules S' J' (atom_of l)) (source_of (atom_of l))
      right k p below fixed l direct =
          right_elsewhere S S' J J' _ _ (source_of (atom_of l)) (relation_of (atom_of l)) (sorted_at (atom_of l).word (atom_of l).terms)
          (λ other. fixed.below (relation_of (atom_of l)) (zero, direct other))
          (λ plain other.
          let fixed_below : IsFixed rules (relation_of (atom_of l)) = record {
            itself = fixed.below (relation_of (atom_of l)) (zero, direct other);
            below = λ r chain. fixed.below r (suc chain.0, (relation_of (atom_of l), direct other, chain.1));
          } in
          below (relation_of (atom_of l)) (direct other) fixed_below (atom_of l) refl)

      literal : (k : ℕ) (p : Relation) → ((q : Relation) → DependsDirectly rules p q → Alike S S' J J' k q) → IsFixed rules p
          → (l : Literal) → (is_distinct (relation_of (atom_of l)) ≡ false → DependsDirectly rules p (relation_of (atom_of l)))
          → IsRight S J (Holds rules S J) l ↔ IsRight S' J' (Holds rules S' J') l
      literal k p below fixed (positive y) direct = right k p below fixed (positive y) direct
      literal k p below fixed (negative y) direct =
          let same = right k p below fixed (negative y) direct in
          ((λ h r. h (same.1 r)), (λ h r. h (same.0 r)))

      step : (k : ℕ) (p : Relation) → ((q : Relation) → DependsDirectly rules p q → Alike S S' J J' k q) → Alike S S' J J' (suc k) p
      step k p below fixed x e =
          let moved : (q : Relation) → DependsDirectly rules (relation_of x) q → DependsDirectly rules p q
          = λ q direct. subst (λ (r : Relation). DependsDirectly rules r q) e direct in (
            (λ h. (by_rule S' J' x).1 (derivation_again rules (IsRight S J (Holds rules S J)) (IsRight S' J' (Holds rules S' J')) x
                (λ l direct. (literal k p below fixed l (λ other. moved _ (direct other))).0) ((by_rule S J x).0 h))),
            (λ h. (by_rule S J x).1 (derivation_again rules (IsRight S' J' (Holds rules S' J')) (IsRight S J (Holds rules S J)) x
                (λ l direct. (literal k p below fixed l (λ other. moved _ (direct other))).1) ((by_rule S' J' x).0 h))),
          )

possible_local : (rules : List Alternative) (fixed holds A B : Type 0) (k : Source) → (k ≡ ordinary → A ↔ B) → PossibleAs rules fixed holds A k
    → PossibleAs rules fixed holds B k
possible_local rules fixed holds A B (now p) e h = h
possible_local rules fixed holds A B (does r m) e h = h
possible_local rules fixed holds A B (distinct s t) e h = h
possible_local rules fixed holds A B ordinary e h = (h.0, λ moves. (e refl).0 (h.1 moves))

pub Keeps-local : (rules : List Alternative) → IsLocal (Keeps rules)
Keeps-local rules H G (positive x) e h = possible_local rules _ _ (H x) (G x) (source_of x) e h
Keeps-local rules H G (negative x) e h = h

-- what a rule derives from kept instances alone, and the other way round
pub kept_by_a_rule : (rules : List Alternative) → IsAcyclic rules → (x : Atom) → HeadsKept rules x ↔ IsDerived rules (Keeps rules (HeadsKept rules)) x
kept_by_a_rule rules acyclic x = derived_by_a_rule rules acyclic (Keeps rules) (Keeps-local rules) x

module _ (rules : List Alternative) (acyclic : IsAcyclic rules) (S : StateOfTerms) (J : Joint) (base : IsWithinBase rules S) (input : IsWithinInput rules J)
  where
    possible : (fixed holds heads A : Type 0) (k : Source) → (k ≡ ordinary → (fixed → A → holds) × (A → heads)) → RightAs S J A k
        → PossibleAs rules fixed holds heads k
    possible fixed holds heads A (now p) e h = base p h
    possible fixed holds heads A (does r m) e h = input r m h
    possible fixed holds heads A (distinct s t) e h = h
    possible fixed holds heads A ordinary e h = ((λ f. (e refl).0 f h), (λ moves. (e refl).1 h))

    undecided : (fixed holds A : Type 0) (k : Source) → (k ≡ ordinary → fixed → holds → A) → (RightAs S J A k → ⊥) → UndecidedAs fixed holds k
    undecided fixed holds A (now p) e h = tt
    undecided fixed holds A (does r m) e h = tt
    undecided fixed holds A (distinct s t) e h = h
    undecided fixed holds A ordinary e h = λ f a. h (e refl f a)

    -- a literal that is right keeps its instance
    pub right_keeps : (l : Literal) → (source_of (atom_of l) ≡ ordinary → Holds rules S J (atom_of l) → HeadsKept rules (atom_of l))
        → IsRight S J (Holds rules S J) l → Keeps rules (HeadsKept rules) l
    right_keeps (positive y) heads right =
        possible _ _ _ (Holds rules S J y) (source_of y)
        (λ plain. ((λ fixed. (fixed_alike rules acyclic S nothing J nobody (relation_of y) fixed y refl).0), heads plain)) right
    right_keeps (negative y) heads wrong =
        undecided _ _ (Holds rules S J y) (source_of y)
        (λ plain fixed. (fixed_alike rules acyclic S nothing J nobody (relation_of y) fixed y refl).1) wrong

    abbrev Heads : ℕ → Relation → Type 0
    Heads k p = (x : Atom) → relation_of x ≡ p → Holds rules S J x → HeadsKept rules x

    by_rule : (x : Atom) → Holds rules S J x ↔ IsDerived rules (IsRight S J (Holds rules S J)) x
    by_rule x = derived_by_a_rule rules acyclic (IsRight S J) (IsRight-local S J) x

    -- what holds is the head of a kept instance
    pub holds_heads : (p : Relation) → Heads (length rules) p
    holds_heads = along_dependence rules acyclic Heads none step
      where
        none : (p : Relation) → (IsHead rules p → ⊥) → Heads zero p
        none p headless x e h = absurd (headless (subst (λ (q : Relation). IsHead rules q) e (derived_heads rules _ x ((by_rule x).0 h))))

        step : (k : ℕ) (p : Relation) → ((q : Relation) → DependsDirectly rules p q → Heads k q) → Heads (suc k) p
        step k p below x e h =
            (kept_by_a_rule rules acyclic x).1 (derivation_again rules (IsRight S J (Holds rules S J)) (Keeps rules (HeadsKept rules)) x
            (λ l direct. right_keeps l (λ plain.
            below (relation_of (atom_of l))
            (subst (λ (q : Relation). DependsDirectly rules q (relation_of (atom_of l))) e (direct (ordinary_not_distinct (atom_of l) plain)))
            (atom_of l) refl))
            ((by_rule x).0 h))

    pub kept_suffice : (x : Atom) → Holds rules S J x ↔ HasRightInstance rules S J x
    kept_suffice x = (there, back)
      where
        there : Holds rules S J x → HasRightInstance rules S J x
        there h =
            let d = (by_rule x).0 h in
            record {
              rule = d.rule;
              map = d.map;
              kept = record {
                is_rule = d.is_rule;
                maps_to_ground = d.maps_to_ground;
                keeps = λ l in_body. right_keeps (literal_under d.map l)
                    (λ plain. holds_heads (relation_of (atom_of (literal_under d.map l))) (atom_of (literal_under d.map l)) refl) (d.fits l in_body);
              };
              heads = d.heads;
              right = d.fits;
            }

        back : HasRightInstance rules S J x → Holds rules S J x
        back i = (by_rule x).1 (record {
          rule = i.rule;
          map = i.map;
          is_rule = i.kept.is_rule;
          maps_to_ground = i.kept.maps_to_ground;
          heads = i.heads;
          fits = i.right;
        })
