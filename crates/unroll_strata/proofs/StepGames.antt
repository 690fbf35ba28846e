-- What is written of own relations is closed under their rules, and has derivations by them, where the game of their steps shows it.
use Rattle.std.proofs.Common.{ℕ, zero, suc, Bool, true, false, not, ◌&&◌, ◌||◌, cond, ◌≡◌, ◌≢◌, ◌⊎◌, ◌↔◌, inl, inr, List, [], ◌∷◌, length, map, filter, refl, sym, ap, subst, ◌∙◌, arith}
use Rattle.statement.specs.Tree.{Tree, name, list, Trees, no_trees, tree, name_eq}
use Rattle.kif.proofs.Facts.{name_eq_yes}
use Rattle.std.specs.Prelude.{◌==◌}
use Rattle.std.proofs.lemmas.Bool.Decides.{nat_tests}
use Rattle.statement.specs.Words.{w_base, w_true, w_does, w_next, w_distinct}
use Rattle.statement.specs.Clause.{Atom, Literal, positive, negative, Alternative, Relation, relation_of, atom_of, is_variable, count_trees, tree_at, tree_of}
use Rattle.statement.specs.Dependence.{IsAmong, is_among, is_distinct, is_moving, DependsDirectly, DependsIn, Depends, IsAcyclic, IsFixed}
use Rattle.statement.specs.Items.{atom_in}
use Rattle.statement.specs.Substitution.{Map, substitute, substitute_all, atom_under, literal_under}
use Rattle.statement.specs.Meaning.{StateOfTerms, Joint, Source, now, does, distinct, ordinary, source_at, source_of, RightAs, IsRight, IsDerived, IsDerivedIn, Holds, HoldsAlways, nothing, nobody, atom1, IsBase}
use Rattle.statement.specs.Listing.{Instance, instance_of, listing}
use Rattle.meaning.specs.Kept.{PossibleAs, UndecidedAs, Keeps, HeadsKept, IsKept}
use Rattle.meaning.specs.Listed.{IsKeptInstance, IsAlternativeAt, IsWellFormed}
use Rattle.meaning.proofs.Facts.{relation-under, relation-literal_under, ordinary_not_distinct, now_is, does_is, derived_heads, derived_once, IsRight-local, kept_by_a_rule, among_filter, among_filter_in, among_map_out, among_map_in}
use Rattle.meaning.specs.Derivable.{IsRightOver, IsDerivable}
use Rattle.meaning.specs.Extension.{AreFounded, base_relation}
use Rattle.unroll_strata.specs.Steps.{stepped_literal, stepped, based}
use Rattle.unroll_strata.specs.Founded.{next_relation, StandAlone, IsStepGame, IsReached}

-- Atoms as terms.

under_at : (m : Map) (w : List ℕ) (ts : Trees) → is_variable w ≡ false → substitute m (tree_at w ts) ≡ tree_at w (substitute_all m ts)
under_at m w no_trees h = ap (λ (b : Bool). cond b (m w) (name w)) h
under_at m w (tree t ts) h =
    ap (λ (u : Tree). list (tree u (tree (substitute m t) (substitute_all m ts)))) (ap (λ (b : Bool). cond b (m w) (name w)) h)

pub tree_under : (m : Map) (a : Atom) → is_variable a.word ≡ false → substitute m (tree_of a) ≡ tree_of (atom_under m a)
tree_under m a h = under_at m a.word a.terms h

back_at : (w : List ℕ) (ts : Trees) → atom_in (tree_at w ts) ≡ record { word = w; terms = ts }
back_at w no_trees = refl
back_at w (tree t ts) = refl

pub tree_back : (x : Atom) → atom_in (tree_of x) ≡ x
tree_back x = back_at x.word x.terms

pub same_atom : (x y : Atom) → tree_of x ≡ tree_of y → x ≡ y
same_atom x y e = sym (tree_back x) ∙ ap atom_in e ∙ tree_back y

abbrev first_term : Trees → Tree
first_term no_trees = name []
first_term (tree t ts) = t

distinct_at : (w : List ℕ) (ts : Trees) (s t : Tree) → source_at w ts ≡ distinct s t → is_distinct (record { word = w; arity = count_trees ts }) ≡ true
distinct_at w no_trees s t e = absurd (let bad : ⊥ = cc in bad)
distinct_at w (tree p no_trees) s t e = go (name_eq w w_true) e
  where
    go : (b : Bool) → cond b (now p) ordinary ≡ distinct s t → (name_eq w w_distinct && false) ≡ true
    go true f = absurd (let bad : ⊥ = cc in bad)
    go false f = absurd (let bad : ⊥ = cc in bad)
distinct_at w (tree p (tree q no_trees)) s t e = go (name_eq w w_does) (name_eq w w_distinct) e
  where
    go : (a b : Bool) → cond a (does p q) (cond b (distinct p q) ordinary) ≡ distinct s t → (b && true) ≡ true
    go true b f = absurd (let bad : ⊥ = cc in bad)
    go false true f = refl
    go false false f = absurd (let bad : ⊥ = cc in bad)
distinct_at w (tree p (tree q (tree r rs))) s t e = absurd (let bad : ⊥ = cc in bad)

-- an atom that says that two terms differ
distinct_is : (y : Atom) (s t : Tree) → source_of y ≡ distinct s t → is_distinct (relation_of y) ≡ true
distinct_is y s t e = distinct_at y.word y.terms s t e

not_next : (t u : Tree) → atom1 w_next t ≡ atom1 w_base u → ⊥
not_next t u e = let k : true ≡ false = ap (λ (x : Atom). name_eq x.word w_next) e in let bad : ⊥ = cc in bad

not_base : (t u : Tree) → atom1 w_base t ≡ atom1 w_next u → ⊥
not_base t u e = let k : true ≡ false = ap (λ (x : Atom). name_eq x.word w_base) e in let bad : ⊥ = cc in bad

distinct_source_at : (w : List ℕ) (ts : Trees) → is_distinct (record { word = w; arity = count_trees ts }) ≡ true
    → (s : Tree) × (t : Tree) × (source_at w ts ≡ distinct s t)
distinct_source_at w no_trees e = absurd (none (name_eq w w_distinct) e)
  where
    none : (b : Bool) → (b && false) ≡ true → ⊥
    none true f = let bad : ⊥ = cc in bad
    none false f = let bad : ⊥ = cc in bad
distinct_source_at w (tree p no_trees) e = absurd (none (name_eq w w_distinct) e)
  where
    none : (b : Bool) → (b && false) ≡ true → ⊥
    none true f = let bad : ⊥ = cc in bad
    none false f = let bad : ⊥ = cc in bad
distinct_source_at w (tree p (tree q no_trees)) e = (p, q, go (name_eq w w_distinct) refl e)
  where
    go : (b : Bool) → name_eq w w_distinct ≡ b → (b && true) ≡ true → cond (name_eq w w_does) (does p q) (cond (name_eq w w_distinct) (distinct p q) ordinary) ≡ distinct p q
    go true f g = ap (λ (v : List ℕ). cond (name_eq v w_does) (does p q) (cond (name_eq v w_distinct) (distinct p q) ordinary)) (name_eq_yes w w_distinct f)
    go false f g = absurd (let bad : ⊥ = cc in bad)
distinct_source_at w (tree p (tree q (tree r rs))) e = absurd (none (name_eq w w_distinct) e)
  where
    no : (suc (suc (suc (count_trees rs))) == 2) ≡ false
    no = grind (arith, nat_tests)

    none : (b : Bool) → (b && (suc (suc (suc (count_trees rs))) == 2)) ≡ true → ⊥
    none true f = let k = no in let bad : ⊥ = cc in bad
    none false f = let bad : ⊥ = cc in bad

one_term : (w : List ℕ) (t u : Tree) → atom1 w t ≡ atom1 w u → t ≡ u
one_term w t u e = ap (λ (x : Atom). first_term x.terms) e

along_always : (A B : Type 0) (k : Source) → (k ≡ ordinary → A → B) → RightAs nothing nobody A k → RightAs nothing nobody B k
along_always A B (now p) e h = h
along_always A B (does r m) e h = h
along_always A B (distinct s t) e h = h
along_always A B ordinary e h = e refl h

-- What is stated below holds alike by all lists that state it alike.
module _ (own below : List Relation) (rules out : List Alternative) (alone : StandAlone own below rules out) where
  abbrev pub few : List Alternative
  few = filter (λ (r : Alternative). is_among (relation_of r.head) below) out

  module _ (some : List Alternative) (law : (x : Atom) → HoldsAlways some x ↔ IsDerived some (IsRight nothing nobody (HoldsAlways some)) x)
      (into : (rule : Alternative) → IsAmong rule some → is_among (relation_of rule.head) below ≡ true → IsAmong rule few)
      (from : (rule : Alternative) → IsAmong rule few → IsAmong rule some) (acyclic : IsAcyclic few) where
    abbrev B : Atom → Type 0
    B x = (is_among (relation_of x) below ≡ true) × HoldsAlways some x

    below_literal : (rule : Alternative) → IsAmong rule few → (l : Literal) → IsAmong l rule.body → (m : Map)
        → is_distinct (relation_of (atom_of (literal_under m l))) ≡ false → is_among (relation_of (atom_of (literal_under m l))) below ≡ true
    below_literal rule a l in_body m other =
        let f = among_filter (λ (r : Alternative). is_among (relation_of r.head) below) rule out a in
        let same = relation-literal_under m l in
        ap (λ (p : Relation). is_among p below) same ∙ alone.below_asked rule f.0 f.1 l in_body (ap is_distinct (sym same) ∙ other)

    to_few : (l : Literal) → (is_distinct (relation_of (atom_of l)) ≡ false → is_among (relation_of (atom_of l)) below ≡ true)
        → IsRight nothing nobody (HoldsAlways some) l ↔ IsRight nothing nobody B l
    to_few (positive y) stands = (
      along_always (HoldsAlways some y) (B y) (source_of y) (λ plain h. (stands (ordinary_not_distinct y plain), h)),
      along_always (B y) (HoldsAlways some y) (source_of y) (λ plain h. h.1),
    )
    to_few (negative y) stands = (
      λ wrong r. wrong (along_always (B y) (HoldsAlways some y) (source_of y) (λ plain h. h.1) r),
      λ wrong r. wrong (along_always (HoldsAlways some y) (B y) (source_of y) (λ plain h. (stands (ordinary_not_distinct y plain), h)) r),
    )

    down : (x : Atom) → B x → IsDerived few (IsRight nothing nobody B) x
    down x h =
        let d = (law x).0 h.1 in
        let heads = sym (relation-under d.map d.rule.head) ∙ ap relation_of d.heads in
        let is_rule = into d.rule d.is_rule (ap (λ (p : Relation). is_among p below) heads ∙ h.0) in
        record {
          rule = d.rule;
          map = d.map;
          is_rule = is_rule;
          maps_to_ground = d.maps_to_ground;
          heads = d.heads;
          fits = λ l in_body. (to_few (literal_under d.map l) (below_literal d.rule is_rule l in_body d.map)).0 (d.fits l in_body);
        }

    up : (x : Atom) → IsDerived few (IsRight nothing nobody B) x → B x
    up x d =
        let f = among_filter (λ (r : Alternative). is_among (relation_of r.head) below) d.rule out d.is_rule in (
          ap (λ (p : Relation). is_among p below) (ap relation_of (sym d.heads) ∙ relation-under d.map d.rule.head) ∙ f.1,
          (law x).1 (record {
            rule = d.rule;
            map = d.map;
            is_rule = from d.rule d.is_rule;
            maps_to_ground = d.maps_to_ground;
            heads = d.heads;
            fits = λ l in_body. (to_few (literal_under d.map l) (below_literal d.rule d.is_rule l in_body d.map)).1 (d.fits l in_body);
          }),
        )

    pub as_few : (x : Atom) → B x ↔ Holds few nothing nobody x
    as_few x = derived_once few acyclic (IsRight nothing nobody) (IsRight-local nothing nobody) B (λ y. (down y, up y)) x

module _ (own below : List Relation) (rules out steps : List Alternative) (alone : StandAlone own below rules out)
    (game : IsStepGame own below rules out steps) (acyclic : IsAcyclic out) (well : IsWellFormed steps)
    (law : (some : List Alternative) → IsAcyclic some → (x : Atom) → HoldsAlways some x ↔ IsDerived some (IsRight nothing nobody (HoldsAlways some)) x)
    (kept_fixed : (x : Atom) → IsFixed steps (relation_of x) → HeadsKept steps x ↔ HoldsAlways steps x)
    (comes_there : (t : Tree) → HeadsKept steps (atom1 w_next t) → IsBase steps t)
  where
    abbrev IsBelow : Relation → Type 0
    IsBelow p = is_among p below ≡ true

    abbrev IsOwn : Relation → Type 0
    IsOwn p = is_among p own ≡ true

    out_law : (x : Atom) → HoldsAlways out x ↔ IsDerived out (IsRight nothing nobody (HoldsAlways out)) x
    out_law x = law out acyclic x

    steps_law : (x : Atom) → HoldsAlways steps x ↔ IsDerived steps (IsRight nothing nobody (HoldsAlways steps)) x
    steps_law x = law steps well.acyclic x

    few_in_out : (rule : Alternative) → IsAmong rule (few own below rules out alone) → IsAmong rule out
    few_in_out rule a = (among_filter (λ (r : Alternative). is_among (relation_of r.head) below) rule out a).0

    few_direct : (p q : Relation) → DependsDirectly (few own below rules out alone) p q → DependsDirectly out p q
    few_direct p q d = record {
      rule = d.rule;
      literal = d.literal;
      is_rule = few_in_out d.rule d.is_rule;
      heads = d.heads;
      in_body = d.in_body;
      names = d.names;
      not_distinct = d.not_distinct;
    }

    few_in : (n : ℕ) (p q : Relation) → DependsIn (few own below rules out alone) n p q → DependsIn out n p q
    few_in zero p q d = few_direct p q d
    few_in (suc n) p q d = (d.0, few_direct p d.0 d.1, few_in n d.0 q d.2)

    few_acyclic : IsAcyclic (few own below rules out alone)
    few_acyclic p d = acyclic p (d.0, few_in d.0 p p d.1)

    head_word : (r : Alternative) (w : List ℕ) (t : Tree) → r.head ≡ atom1 w t → relation_of r.head ≡ record { word = w; arity = 1 }
    head_word r w t e = ap relation_of e

    -- a rule of the game of a relation that stands below is written
    below_in_steps : (rule : Alternative) → IsAmong rule steps → IsBelow (relation_of rule.head) → IsAmong rule out
    below_in_steps rule a stands = go (game.only rule a)
      where
        go : (IsAmong rule out × (is_among (relation_of rule.head) below ≡ true))
            ⊎ (((r : Alternative) × IsAmong r out × (is_among (relation_of r.head) own ≡ true) × (rule ≡ based r))
            ⊎ ((r : Alternative) × IsAmong r rules × (is_among (relation_of r.head) own ≡ true) × (rule ≡ stepped own r))) → IsAmong rule out
        go (inl h) = h.0
        go (inr (inl h)) =
            let e = ap (λ (r : Alternative). relation_of r.head) h.3 in
            let not_there = alone.no_base in
            let there : is_among base_relation below ≡ true = ap (λ (p : Relation). is_among p below) (sym e) ∙ stands in
            absurd (let bad : ⊥ = cc in bad)
        go (inr (inr h)) =
            let e = ap (λ (r : Alternative). relation_of r.head) h.3 in
            let not_there = alone.no_next in
            let there : is_among next_relation below ≡ true = ap (λ (p : Relation). is_among p below) (sym e) ∙ stands in
            absurd (let bad : ⊥ = cc in bad)

    -- what stands below holds alike in both
    alike : (x : Atom) → IsBelow (relation_of x) → HoldsAlways out x ↔ HoldsAlways steps x
    alike x stands =
        let test : Alternative → Bool = λ r. is_among (relation_of r.head) below in
        let one = as_few own below rules out alone out out_law (λ rule a s. among_filter_in test rule out a s) (λ rule a. few_in_out rule a) few_acyclic x in
        let two = as_few own below rules out alone steps steps_law (λ rule a s. among_filter_in test rule out (below_in_steps rule a s) s)
        (λ rule a. let f = among_filter test rule out a in game.taken rule f.0 f.1) few_acyclic x in
        (λ h. (two.1 (one.0 (stands, h))).1, λ h. (one.1 (two.0 (stands, h))).1)

    own_ordinary : (y : Atom) → IsOwn (relation_of y) → source_of y ≡ ordinary
    own_ordinary y o = go (source_of y) refl
      where
        go : (k : Source) → source_of y ≡ k → source_of y ≡ ordinary
        go (now p) e =
            let moves = ap (λ (x : Atom). is_moving (relation_of x)) (now_is y p e) in
            let still = alone.own_still (relation_of y) o in absurd (let bad : ⊥ = cc in bad)
        go (does r m) e =
            let moves = ap (λ (x : Atom). is_moving (relation_of x)) (does_is y r m e) in
            let still = alone.own_still (relation_of y) o in absurd (let bad : ⊥ = cc in bad)
        go (distinct s t) e = absurd (other s t e)
          where
            other : (s t : Tree) → source_of y ≡ distinct s t → ⊥
            other s t e = let d = distinct_is y s t e in let o' = alone.own_other (relation_of y) o in let bad : ⊥ = cc in bad
        go ordinary e = e

    -- literals of rules that stand below, in both
    literal_alike : (l : Literal) → (is_distinct (relation_of (atom_of l)) ≡ false → IsBelow (relation_of (atom_of l)))
        → IsRight nothing nobody (HoldsAlways out) l ↔ IsRight nothing nobody (HoldsAlways steps) l
    literal_alike (positive y) stands = (
      along_always (HoldsAlways out y) (HoldsAlways steps y) (source_of y) (λ plain h. (alike y (stands (ordinary_not_distinct y plain))).0 h),
      along_always (HoldsAlways steps y) (HoldsAlways out y) (source_of y) (λ plain h. (alike y (stands (ordinary_not_distinct y plain))).1 h),
    )
    literal_alike (negative y) stands = (
      λ wrong r. wrong (along_always (HoldsAlways steps y) (HoldsAlways out y) (source_of y)
          (λ plain h. (alike y (stands (ordinary_not_distinct y plain))).1 h) r),
      λ wrong r. wrong (along_always (HoldsAlways out y) (HoldsAlways steps y) (source_of y)
          (λ plain h. (alike y (stands (ordinary_not_distinct y plain))).0 h) r),
    )

    written_asked : (rule : Alternative) → IsAmong rule out → IsBelow (relation_of rule.head) → (l : Literal) → IsAmong l rule.body → (m : Map)
        → is_distinct (relation_of (atom_of (literal_under m l))) ≡ false → IsBelow (relation_of (atom_of (literal_under m l)))
    written_asked rule a stands l in_body m other =
        let same = relation-literal_under m l in
        ap (λ (p : Relation). is_among p below) same ∙ alone.below_asked rule a stands l in_body (ap is_distinct (sym same) ∙ other)

    constant_head : (r : Alternative) → IsOwn (relation_of r.head) → is_variable r.head.word ≡ false
    constant_head r o = alone.own_constant (relation_of r.head) o

    -- what is written of an own relation is what a state can have
    base_in : (x : Atom) → IsOwn (relation_of x) → HoldsAlways out x → IsBase steps (tree_of x)
    base_in x o h =
        let d = (out_law x).0 h in
        let heads = sym (relation-under d.map d.rule.head) ∙ ap relation_of d.heads in
        let is_own : IsOwn (relation_of d.rule.head) = ap (λ (p : Relation). is_among p own) heads ∙ o in
        (steps_law (atom1 w_base (tree_of x))).1 (record {
          rule = based d.rule;
          map = d.map;
          is_rule = game.bases d.rule d.is_rule is_own;
          maps_to_ground = d.maps_to_ground;
          heads = ap (atom1 w_base) (tree_under d.map d.rule.head (constant_head d.rule is_own) ∙ ap tree_of d.heads);
          fits = λ l in_body. (literal_alike (literal_under d.map l)
              (written_asked d.rule d.is_rule (alone.own_below (relation_of d.rule.head) is_own) l in_body d.map)).0 (d.fits l in_body);
        })

    base_out : (x : Atom) → IsBase steps (tree_of x) → HoldsAlways out x
    base_out x h = let d = (steps_law (atom1 w_base (tree_of x))).0 h in go d (game.only d.rule d.is_rule)
      where
        go : (d : IsDerived steps (IsRight nothing nobody (HoldsAlways steps)) (atom1 w_base (tree_of x)))
            → (IsAmong d.rule out × (is_among (relation_of d.rule.head) below ≡ true))
            ⊎ (((r : Alternative) × IsAmong r out × (is_among (relation_of r.head) own ≡ true) × (d.rule ≡ based r))
            ⊎ ((r : Alternative) × IsAmong r rules × (is_among (relation_of r.head) own ≡ true) × (d.rule ≡ stepped own r))) → HoldsAlways out x
        go d (inl f) =
            let heads = sym (relation-under d.map d.rule.head) ∙ ap relation_of d.heads in
            let not_there = alone.no_base in
            let there : is_among base_relation below ≡ true = ap (λ (p : Relation). is_among p below) (sym heads) ∙ f.1 in
            absurd (let bad : ⊥ = cc in bad)
        go d (inr (inl f)) =
            let r = f.0 in
            let heads : atom1 w_base (substitute d.map (tree_of r.head)) ≡ atom1 w_base (tree_of x) =
            ap (λ (q : Alternative). atom_under d.map q.head) (sym f.3) ∙ d.heads in
            let here : tree_of (atom_under d.map r.head) ≡ tree_of x =
            sym (tree_under d.map r.head (constant_head r f.2)) ∙ one_term w_base _ _ heads in
            (out_law x).1 (record {
              rule = r;
              map = d.map;
              is_rule = f.1;
              maps_to_ground = d.maps_to_ground;
              heads = same_atom (atom_under d.map r.head) x here;
              fits = λ l in_body. (literal_alike (literal_under d.map l)
                  (written_asked r f.1 (alone.own_below (relation_of r.head) f.2) l in_body d.map)).1
                  (d.fits l (subst (λ (q : Alternative). IsAmong l q.body) (sym f.3) in_body));
            })
        go d (inr (inr f)) =
            let heads : atom1 w_next (substitute d.map (tree_of f.0.head)) ≡ atom1 w_base (tree_of x) =
            ap (λ (q : Alternative). atom_under d.map q.head) (sym f.3) ∙ d.heads in
            absurd (not_next _ _ heads)

    -- Own relations are fixed.

    fixed_below : (p q : Relation) → IsFixed steps p → DependsDirectly steps p q → IsFixed steps q
    fixed_below p q f d = record { itself = f.below q (zero, d); below = λ r chain. f.below r (suc chain.0, (q, d, chain.1)) }

    direct_in_steps : (p q : Relation) → IsBelow p → DependsDirectly out p q → DependsDirectly steps p q × IsBelow q
    direct_in_steps p q stands d =
        let here : IsBelow (relation_of d.rule.head) = ap (λ (r : Relation). is_among r below) d.heads ∙ stands in (
          record {
            rule = d.rule;
            literal = d.literal;
            is_rule = game.taken d.rule d.is_rule here;
            heads = d.heads;
            in_body = d.in_body;
            names = d.names;
            not_distinct = d.not_distinct;
          },
          ap (λ (r : Relation). is_among r below) (sym d.names)
              ∙ alone.below_asked d.rule d.is_rule here d.literal d.in_body (ap is_distinct d.names ∙ d.not_distinct),
        )

    still_in : (n : ℕ) (p q : Relation) → IsBelow p → IsFixed steps p → DependsIn out n p q → is_moving q ≡ false
    still_in zero p q stands f d = f.below q (zero, (direct_in_steps p q stands d).0)
    still_in (suc n) p q stands f d =
        let k = direct_in_steps p d.0 stands d.1 in still_in n d.0 q k.1 (fixed_below p d.0 f k.0) d.2

    -- what a rule of an own relation asks is asked by `base`
    first_step : (p q : Relation) → IsOwn p → DependsDirectly out p q → IsFixed steps q × IsBelow q
    first_step p q o d =
        let here : IsOwn (relation_of d.rule.head) = ap (λ (r : Relation). is_among r own) d.heads ∙ o in
        let direct : DependsDirectly steps base_relation q = record {
          rule = based d.rule;
          literal = d.literal;
          is_rule = game.bases d.rule d.is_rule here;
          heads = refl;
          in_body = d.in_body;
          names = d.names;
          not_distinct = d.not_distinct;
        } in
        (fixed_below base_relation q well.base direct, (direct_in_steps p q (alone.own_below p o) d).1)

    own_fixed : (p : Relation) → IsOwn p → IsFixed out p
    own_fixed p o = record { itself = alone.own_still p o; below = λ q d. go q d.0 d.1 }
      where
        go : (q : Relation) (n : ℕ) → DependsIn out n p q → is_moving q ≡ false
        go q zero d = (first_step p q o d).0.itself
        go q (suc n) d = let k = first_step p d.0 o d.1 in still_in n d.0 q k.1 k.0 d.2

    fixed_there : (p : Relation) → IsOwn p → IsFixed steps p
    fixed_there p o = record { itself = alone.own_still p o; below = λ q d. go q d.0 d.1 }
      where
        go : (q : Relation) (n : ℕ) → DependsIn steps n p q → is_moving q ≡ false
        go q zero d = (one q d).0.itself
          where
            one : (q : Relation) → DependsDirectly steps p q → IsFixed steps q × IsBelow q
            one q d =
                let rule = below_in_steps d.rule d.is_rule (ap (λ (r : Relation). is_among r below) d.heads ∙ alone.own_below p o) in
                first_step p q o (record {
                  rule = d.rule;
                  literal = d.literal;
                  is_rule = rule;
                  heads = d.heads;
                  in_body = d.in_body;
                  names = d.names;
                  not_distinct = d.not_distinct;
                })
        go q (suc n) d =
            let rule = below_in_steps d.1.rule d.1.is_rule (ap (λ (r : Relation). is_among r below) d.1.heads ∙ alone.own_below p o) in
            (first_step p d.0 o (record {
              rule = d.1.rule;
              literal = d.1.literal;
              is_rule = rule;
              heads = d.1.heads;
              in_body = d.1.in_body;
              names = d.1.names;
              not_distinct = d.1.not_distinct;
            })).0.below q (n, d.2)

    -- What is written is closed under the rules.

    own_asked : (rule : Alternative) → IsAmong rule rules → IsOwn (relation_of rule.head) → (l : Literal) → IsAmong l rule.body → (m : Map)
        → is_distinct (relation_of (atom_of (literal_under m l))) ≡ false → IsOwn (relation_of (atom_of (literal_under m l)))
    own_asked rule a o l in_body m other =
        let same = relation-literal_under m l in
        ap (λ (p : Relation). is_among p own) same ∙ alone.own_asked rule a o l in_body (ap is_distinct (sym same) ∙ other)

    keeps_own : (y : Atom) (m : Map) → IsOwn (relation_of y) → IsRight nothing nobody (HoldsAlways out) (positive (atom_under m y))
        → Keeps steps (HeadsKept steps) (positive (atom1 w_true (substitute m (tree_of y))))
    keeps_own y m o h =
        let there : IsOwn (relation_of (atom_under m y)) = ap (λ (p : Relation). is_among p own) (relation-under m y) ∙ o in
        let holds : HoldsAlways out (atom_under m y) = subst (λ (k : Source). RightAs nothing nobody (HoldsAlways out (atom_under m y)) k)
        (own_ordinary (atom_under m y) there) h in
        subst (λ (t : Tree). IsBase steps t) (sym (tree_under m y (alone.own_constant (relation_of y) o))) (base_in (atom_under m y) there holds)

    keeps_distinct : (y : Atom) (s t : Tree) → source_of y ≡ distinct s t → IsRight nothing nobody (HoldsAlways out) (positive y)
        → Keeps steps (HeadsKept steps) (positive y)
    keeps_distinct y s t e h =
        subst (λ (k : Source). PossibleAs steps (IsFixed steps (relation_of y)) (HoldsAlways steps y) (HeadsKept steps y) k) (sym e)
        (subst (λ (k : Source). RightAs nothing nobody (HoldsAlways out y) k) e h)

    keeps_negative : (y : Atom) → (is_distinct (relation_of y) ≡ false → IsOwn (relation_of y)) → IsRight nothing nobody (HoldsAlways out) (negative y)
        → Keeps steps (HeadsKept steps) (negative y)
    keeps_negative y owns wrong = go (source_of y) refl wrong
      where
        go : (k : Source) → source_of y ≡ k → (RightAs nothing nobody (HoldsAlways out y) k → ⊥)
            → UndecidedAs (IsFixed steps (relation_of y)) (HoldsAlways steps y) k
        go (now p) e h = tt
        go (does r m) e h = tt
        go (distinct s t) e h = h
        go ordinary e h = λ fixed holds. h ((alike y (alone.own_below (relation_of y) (owns (ordinary_not_distinct y e)))).1 holds)

    keeps_stepped : (l : Literal) (m : Map) → (is_distinct (relation_of (atom_of l)) ≡ false → IsOwn (relation_of (atom_of l)))
        → IsRight nothing nobody (HoldsAlways out) (literal_under m l) → Keeps steps (HeadsKept steps) (literal_under m (stepped_literal own l))
    keeps_stepped (positive y) m owns h = go (is_among (relation_of y) own) refl
      where
        distinct_there : is_distinct (relation_of (atom_under m y)) ≡ true → Keeps steps (HeadsKept steps) (positive (atom_under m y))
        distinct_there e =
            let k = distinct_source_at (atom_under m y).word (atom_under m y).terms e in keeps_distinct (atom_under m y) k.0 k.1 k.2 h

        other : (b : Bool) → is_distinct (relation_of y) ≡ b → is_among (relation_of y) own ≡ false
            → Keeps steps (HeadsKept steps) (positive (atom_under m y))
        other true e f = distinct_there (ap is_distinct (relation-under m y) ∙ e)
        other false e f = let o = owns e in absurd (let bad : ⊥ = cc in bad)

        go : (b : Bool) → is_among (relation_of y) own ≡ b
            → Keeps steps (HeadsKept steps) (positive (atom_under m (cond b (atom1 w_true (tree_of y)) y)))
        go true e = keeps_own y m e h
        go false e = other (is_distinct (relation_of y)) refl e
    keeps_stepped (negative y) m owns h =
        keeps_negative (atom_under m y) (λ e. ap (λ (p : Relation). is_among p own) (relation-under m y) ∙ owns (ap is_distinct (sym (relation-under m y)) ∙ e)) h

    own_of : (rule : Alternative) → IsAmong rule rules → IsOwn (relation_of rule.head) → (l : Literal) → IsAmong l rule.body
        → is_distinct (relation_of (atom_of l)) ≡ false → IsOwn (relation_of (atom_of l))
    own_of rule a o l in_body other = alone.own_asked rule a o l in_body other

    closed : (x : Atom) → IsOwn (relation_of x) → IsDerived rules (IsRight nothing nobody (HoldsAlways out)) x → HoldsAlways out x
    closed x o d =
        let heads = sym (relation-under d.map d.rule.head) ∙ ap relation_of d.heads in
        let is_own : IsOwn (relation_of d.rule.head) = ap (λ (p : Relation). is_among p own) heads ∙ o in
        base_out x (comes_there (tree_of x) ((kept_by_a_rule steps well.acyclic (atom1 w_next (tree_of x))).1 (record {
          rule = stepped own d.rule;
          map = d.map;
          is_rule = game.nexts d.rule d.is_rule is_own;
          maps_to_ground = d.maps_to_ground;
          heads = ap (atom1 w_next) (tree_under d.map d.rule.head (constant_head d.rule is_own) ∙ ap tree_of d.heads);
          fits = λ l in_body.
              let k = among_map_out (stepped_literal own) l d.rule.body in_body in
              subst (λ (q : Literal). Keeps steps (HeadsKept steps) (literal_under d.map q)) (sym k.2)
              (keeps_stepped k.0 d.map (λ e. own_of d.rule d.is_rule is_own k.0 k.1 e) (d.fits k.0 k.1));
        })))

    -- What play comes to has a derivation.
    module _ (exact : (i : Instance) → IsAmong i (listing steps).kept → IsKeptInstance steps i) where
      abbrev Over : ℕ → Atom → Type 0
      Over n y = IsDerivedIn rules (IsRightOver nothing nobody (HoldsAlways out)) n y

      over_stepped : (n : ℕ) → ((y : Atom) → IsOwn (relation_of y) → IsReached steps n (tree_of y) → Over n y)
          → (l : Literal) (m : Map) → (is_distinct (relation_of (atom_of l)) ≡ false → IsOwn (relation_of (atom_of l)))
          → Keeps steps (HeadsKept steps) (literal_under m (stepped_literal own l))
          → ((u : Tree) → literal_under m (stepped_literal own l) ≡ positive (atom1 w_true u) → IsReached steps n u)
          → IsRightOver nothing nobody (HoldsAlways out) (Over n) (literal_under m l)
      over_stepped n below_n (positive y) m owns keeps reached = go (is_among (relation_of y) own) refl keeps reached
        where
          under : relation_of (atom_under m y) ≡ relation_of y
          under = relation-under m y

          other : (b : Bool) → is_distinct (relation_of y) ≡ b → is_among (relation_of y) own ≡ false
              → Keeps steps (HeadsKept steps) (positive (atom_under m y)) → IsRightOver nothing nobody (HoldsAlways out) (Over n) (positive (atom_under m y))
          other true e f k =
              let d = distinct_source_at (atom_under m y).word (atom_under m y).terms (ap is_distinct under ∙ e) in
              subst (λ (s : Source). RightAs nothing nobody (Over n (atom_under m y)) s) (sym d.2)
              (subst (λ (s : Source). PossibleAs steps (IsFixed steps (relation_of (atom_under m y))) (HoldsAlways steps (atom_under m y))
              (HeadsKept steps (atom_under m y)) s) d.2 k)
          other false e f k = let o = owns e in absurd (let bad : ⊥ = cc in bad)

          go : (b : Bool) → is_among (relation_of y) own ≡ b
              → Keeps steps (HeadsKept steps) (positive (atom_under m (cond b (atom1 w_true (tree_of y)) y)))
              → ((u : Tree) → positive (atom_under m (cond b (atom1 w_true (tree_of y)) y)) ≡ positive (atom1 w_true u) → IsReached steps n u)
              → IsRightOver nothing nobody (HoldsAlways out) (Over n) (positive (atom_under m y))
          go true e k r =
              let there : IsOwn (relation_of (atom_under m y)) = ap (λ (p : Relation). is_among p own) under ∙ e in
              let tree_there = tree_under m y (alone.own_constant (relation_of y) e) in
              subst (λ (s : Source). RightAs nothing nobody (Over n (atom_under m y)) s) (sym (own_ordinary (atom_under m y) there))
              (below_n (atom_under m y) there (r (tree_of (atom_under m y)) (ap (λ (t : Tree). positive (atom1 w_true t)) tree_there)))
          go false e k r = other (is_distinct (relation_of y)) refl e k
      over_stepped n below_n (negative y) m owns keeps reached = go (source_of (atom_under m y)) refl keeps
        where
          go : (k : Source) → source_of (atom_under m y) ≡ k
              → UndecidedAs (IsFixed steps (relation_of (atom_under m y))) (HoldsAlways steps (atom_under m y)) k
              → RightAs nothing nobody (HoldsAlways out (atom_under m y)) k → ⊥
          go (now p) e u r = let bad : ⊥ = cc in bad
          go (does a b) e u r = let bad : ⊥ = cc in bad
          go (distinct s t) e u r = u r
          go ordinary e u r =
              let plain = ap is_distinct (sym (relation-under m y)) ∙ ordinary_not_distinct (atom_under m y) e in
              let there : IsOwn (relation_of (atom_under m y)) = ap (λ (p : Relation). is_among p own) (relation-under m y) ∙ owns plain in
              u (fixed_there (relation_of (atom_under m y)) there) ((alike (atom_under m y) (alone.own_below (relation_of (atom_under m y)) there)).0 r)

      derived : (n : ℕ) (x : Atom) → IsOwn (relation_of x) → IsReached steps n (tree_of x) → Over n x
      derived zero x o r = absurd r
      derived (suc n) x o r = let i = exact r.0 r.1 in go (λ y p k. derived n y p k) i (game.only i.rule i.kept.is_rule)
        where
          go : ((y : Atom) → IsOwn (relation_of y) → IsReached steps n (tree_of y) → Over n y) → (i : IsKeptInstance steps r.0)
              → (IsAmong i.rule out × (is_among (relation_of i.rule.head) below ≡ true))
              ⊎ (((q : Alternative) × IsAmong q out × (is_among (relation_of q.head) own ≡ true) × (i.rule ≡ based q))
              ⊎ ((q : Alternative) × IsAmong q rules × (is_among (relation_of q.head) own ≡ true) × (i.rule ≡ stepped own q))) → Over (suc n) x
          go later i (inl f) =
              let head : atom_under i.map i.rule.head ≡ atom1 w_next (tree_of x) = ap (λ (j : Instance). j.head) i.same ∙ r.2 in
              let same = sym (relation-under i.map i.rule.head) ∙ ap relation_of head in
              let not_there = alone.no_next in
              let there : is_among next_relation below ≡ true = ap (λ (p : Relation). is_among p below) (sym same) ∙ f.1 in
              absurd (let bad : ⊥ = cc in bad)
          go later i (inr (inl f)) =
              let head : atom_under i.map i.rule.head ≡ atom1 w_next (tree_of x) = ap (λ (j : Instance). j.head) i.same ∙ r.2 in
              let other : atom1 w_base (substitute i.map (tree_of f.0.head)) ≡ atom1 w_next (tree_of x) =
              ap (λ (q : Alternative). atom_under i.map q.head) (sym f.3) ∙ head in
              absurd (not_base _ _ other)
          go later i (inr (inr f)) =
              let q = f.0 in
              let head : atom_under i.map i.rule.head ≡ atom1 w_next (tree_of x) = ap (λ (j : Instance). j.head) i.same ∙ r.2 in
              let other : atom1 w_next (substitute i.map (tree_of q.head)) ≡ atom1 w_next (tree_of x) =
              ap (λ (p : Alternative). atom_under i.map p.head) (sym f.3) ∙ head in
              let here : tree_of (atom_under i.map q.head) ≡ tree_of x =
              sym (tree_under i.map q.head (constant_head q f.2)) ∙ one_term w_next _ _ other in
              record {
                rule = q;
                map = i.map;
                is_rule = f.1;
                maps_to_ground = i.kept.maps_to_ground;
                heads = same_atom (atom_under i.map q.head) x here;
                fits = λ l in_body.
                    let in_rule : IsAmong (stepped_literal own l) i.rule.body =
                    subst (λ (p : Alternative). IsAmong (stepped_literal own l) p.body) (sym f.3) (among_map_in (stepped_literal own) l q.body in_body) in
                    over_stepped n later l i.map (λ e. own_of q f.1 f.2 l in_body e) (i.kept.keeps (stepped_literal own l) in_rule)
                    (λ u e. r.3 u (subst (λ (j : Instance). IsAmong (positive (atom1 w_true u)) j.body) i.same
                    (subst (λ (k : Literal). IsAmong k (map (literal_under i.map) i.rule.body)) e
                    (among_map_in (literal_under i.map) (stepped_literal own l) i.rule.body in_rule))));
              }

      pub are_founded : ((t : Tree) → IsBase steps t → (n : ℕ) × IsReached steps n t) → AreFounded rules out (λ p. is_among p own)
      are_founded comes = record {
        below = alone.own_asked;
        fixed = own_fixed;
        closed = closed;
        founded = λ x o h. let r = comes (tree_of x) (base_in x o h) in (r.0, derived r.0 x o r.1);
      }
