-- The parts of an instantiation fit together.
use Rattle.std.proofs.Common.{
  ℕ,
  zero,
  suc,
  ◌<◌,
  ◌≤◌,
  ◌+◌,
  Bool,
  true,
  false,
  not,
  cond,
  ◌≡◌,
  ◌≢◌,
  inl,
  inr,
  List,
  [],
  ◌∷◌,
  ◌++◌,
  length,
  length-append,
  map,
  get_or,
  refl,
  sym,
  ap,
  subst,
  ◌∙◌,
  arith,
  Option,
  Some,
  None,
}
use Rattle.std.proofs.Math.Logic.{∥∥₁_elim}
use Rattle.std.proofs.Props.{props}
use Rattle.std.specs.Prelude.{All, AllPairs, filter}
use Rattle.std.specs.Ordering.{nat_cmp}
use Rattle.std.specs.Cmp.Lexicographic.{slice_cmp}
use Rattle.std.proofs.lemmas.List.{length-map, get_or-map}
use Rattle.std.specs.Coded.{×_prop, Unit-prop, le_prop}
use Rattle.std.specs.Option.{option_map}
use Rattle.std.specs.declared.cmp.Ordering.TheVariants.{Less}
use Rattle.statement.specs.Tree.{Tree, Trees, no_trees, tree, text, tree_eq, printed_cmp}
use Rattle.statement.specs.Lexical.{HasNames}
use Rattle.kif.proofs.Facts.{tree_eq_yes, text_once}
use Rattle.statement.specs.Clause.{Atom, Alternative, Relation, relation_of, is_word, atom_eq}
use Rattle.statement.specs.Dependence.{IsAmong, is_fixed}
use Rattle.statement.specs.Order.{relations_in_order}
use Rattle.statement.specs.Words.{w_role, w_true, w_does}
use Rattle.statement.specs.declared.kind.Kind.{Kind}
use Rattle.statement.specs.declared.kind.Kind.TheVariants.{Fixed, Now, Does, Next, Legal, Goal, Terminal, Other}
use Rattle.statement.specs.Meaning.{source_of, ordinary, atom1, atom2}
use Rattle.statement.specs.Printed.{AreInOrder}
use Rattle.statement.specs.Kinds.{place_in, kind_of}
use Rattle.meaning.specs.Effects.{IsWithinLimits}
use Rattle.statement.specs.Limits.{count_inputs}
use Rattle.statement.specs.Most.{wide_limits}
use Rattle.meaning.specs.Listed.{IsWellFormed}
use Rattle.statement.specs.Listing.{Instance, is_atom_in, with_atoms, Listing, heads, list_relation, list_relations, kept_of_relation, one_term, terms_of, context_atoms, moves_of, fixed_listing, listing, role_list, base_list, input_list}
use Rattle.statement.specs.Kept.{gate}
use Rattle.statement.specs.GoalsAndMoves as play
use Rattle.statement.specs.Kept.{Kept, numbered}
use Rattle.ground_instances.specs.Grounds.{texts_at, IsGroundOf, IsSomeGround}
use Rattle.ground_instances.specs.Fits.{TextsRise, Differ, count_all, IsInputWithin, IsKindWithin, IsKeptWithin, FitTogether}
use Rattle.meaning.proofs.Facts.{
  among_map_out,
  place_below,
  order_other,
  order_map,
  kind_sound,
  roles_once,
  bases_in_order,
  inputs_in_order,
  heads_exact,
  roles_exact,
  listing_exact,
  atoms_exact,
  gate_numbered,
  role_lawful,
  term_named,
  source_under,
  with_front,
  steps_front,
  atom_test,
  excess_exact,
}

-- Lists by place.

pub among_at : {A : Type 0} (xs : List A) (k : ℕ) (d : A) → k < length xs → IsAmong (get_or xs k d) xs
among_at [] k d lt = absurd (omega arith)
among_at (x ∷ xs) zero d lt = inl refl
among_at (x ∷ xs) (suc k) d lt = inr (among_at xs k d (omega arith))

pub all_among : {A : Type 0} (P : A → Type 0) (xs : List A) → ((x : A) → IsAmong x xs → P x) → All P xs
all_among P xs h k d lt = h (get_or xs k d) (among_at xs k d lt)

pub all_map : {A C : Type 0} (P : C → Type 0) (f : A → C) (xs : List A) → ((x : A) → IsAmong x xs → P (f x)) → All P (map f xs)
all_map {A} {C} P f xs h = all_among P (map f xs) (λ y a. let r = among_map_out f y xs a in subst (λ (z : C). P z) (sym r.2) (h r.0 r.1))

pub pairs_in_order : {A : Type 0} (B : A → A → Type 0) (xs : List A) → AreInOrder B xs → AllPairs B xs
pairs_in_order B [] h i j d l m = absurd (omega arith)
pairs_in_order B (x ∷ xs) h zero zero d l m = absurd (omega arith)
pairs_in_order B (x ∷ xs) h zero (suc j) d l m = h.0 (get_or xs j d) (among_at xs j d (omega arith))
pairs_in_order B (x ∷ xs) h (suc i) zero d l m = absurd (omega arith)
pairs_in_order B (x ∷ xs) h (suc i) (suc j) d l m = pairs_in_order B xs h.1 i j d (omega arith) (omega arith)

pub pairs_map : {A C : Type 0} (B : A → A → Type 0) (D : C → C → Type 0) (f : A → C) (xs : List A) → AreInOrder B xs
    → ((x y : A) → IsAmong x xs → IsAmong y xs → B x y → D (f x) (f y)) → AllPairs D (map f xs)
pairs_map B D f xs h k = pairs_in_order D (map f xs) (order_map f D xs (order_other B (λ x y. D (f x) (f y)) xs k h))

-- The place of a tree is below the length, and the tree stands there.

placed : (t : Tree) (ts : List Tree) (n : ℕ) → place_in t ts ≡ Some n → (n < length ts) × ((d : Tree) → get_or ts n d ≡ t)
placed t [] n h = absurd cc
placed t (u ∷ us) n h = go (tree_eq t u) refl (place_in t us) refl h (placed t us)
  where
    go : (b : Bool) → tree_eq t u ≡ b → (o : Option ℕ) → place_in t us ≡ o → cond b (Some zero) (option_map suc o) ≡ Some n
        → ((k : ℕ) → place_in t us ≡ Some k → (k < length us) × ((d : Tree) → get_or us k d ≡ t))
        → (n < suc (length us)) × ((d : Tree) → get_or (u ∷ us) n d ≡ t)
    go true e o f k more = let z : zero ≡ n = cc in (omega arith, (λ d. subst (λ (i : ℕ). get_or (u ∷ us) i d ≡ t) z (sym (tree_eq_yes t u e))))
    go false e None f k more = absurd cc
    go false e (Some i) f k more =
        let z : suc i ≡ n = cc in
        let r = more i f in
        let l = r.0 in
        (omega arith, (λ d. subst (λ (j : ℕ). get_or (u ∷ us) j d ≡ t) z (r.1 d)))

-- Counts.

with_count : (xs ys : List Atom) → length (with_atoms xs ys) ≤ length xs + length ys
with_count xs [] = omega arith
with_count xs (y ∷ ys) = go (is_atom_in y xs) (with_count xs ys) (with_count (xs ++ y ∷ []) ys)
  where
    go : (b : Bool) → length (with_atoms xs ys) ≤ length xs + length ys → length (with_atoms (xs ++ y ∷ []) ys) ≤ length (xs ++ y ∷ []) + length ys
        → length (with_atoms (cond b xs (xs ++ y ∷ [])) ys) ≤ length xs + suc (length ys)
    go true h k = omega arith
    go false h k = let e = length-append xs (y ∷ []) in omega arith

heads_count : (is : List Instance) → length (heads is) ≡ length is
heads_count [] = refl
heads_count (i ∷ is) = ap suc (heads_count is)

-- each further atom is the head of a further instance
steps_count : (rules : List Alternative) (g : Listing) (ps : List Relation)
    → length (list_relations rules g ps).atoms + length g.kept ≤ length g.atoms + length (list_relations rules g ps).kept
steps_count rules g [] = omega arith
steps_count rules g (p ∷ ps) =
    let new = kept_of_relation rules g.atoms p zero rules in
    let here = with_count g.atoms (heads new) in
    let same = heads_count new in
    let both = length-append g.kept new in
    let rest = steps_count rules (list_relation rules g p) ps in
    omega arith

inputs_count : (rules : List Alternative) (rs : List Tree) → length (moves_of (fixed_listing rules).atoms rs) ≡ count_inputs rules rs
inputs_count rules [] = refl
inputs_count rules (r ∷ rs) =
    let a = length-append (map (λ (m : Tree). atom2 w_does r m) (input_list rules r)) (moves_of (fixed_listing rules).atoms rs) in
    let b = length-map (input_list rules r) (λ (m : Tree). atom2 w_does r m) in
    let c = inputs_count rules rs in
    omega arith

context_count : (rules : List Alternative) → length (context_atoms (fixed_listing rules).atoms) ≡ length (base_list rules) + count_inputs rules
    (role_list rules)
context_count rules =
    let a = length-append (map (λ (p : Tree). atom1 w_true p) (base_list rules)) (moves_of (fixed_listing rules).atoms (role_list rules)) in
    let b = length-map (base_list rules) (λ (p : Tree). atom1 w_true p) in
    let c = inputs_count rules (role_list rules) in
    omega arith

-- there are no more atoms than instances, base propositions and inputs
pub atoms_count : (rules : List Alternative)
    → length (listing rules).atoms ≤ length (listing rules).kept + (length (base_list rules) + count_inputs rules (role_list rules))
atoms_count rules =
    let a = steps_count rules (record { atoms = []; kept = [] }) (filter (λ p. is_fixed rules p) (relations_in_order rules)) in
    let b = with_count (fixed_listing rules).atoms (context_atoms (fixed_listing rules).atoms) in
    let c = context_count rules in
    let d = steps_count rules (record {
      atoms = with_atoms (fixed_listing rules).atoms (context_atoms (fixed_listing rules).atoms);
      kept = (fixed_listing rules).kept;
    }) (filter (λ p. not (is_fixed rules p)) (relations_in_order rules)) in
    omega arith

one_term_count : (ts : Trees) → length (one_term ts) ≤ 1
one_term_count no_trees = omega arith
one_term_count (tree t no_trees) = omega arith
one_term_count (tree t (tree u us)) = omega arith

terms_count : (w : List ℕ) (xs : List Atom) → length (terms_of w xs) ≤ length xs
terms_count w [] = omega arith
terms_count w (x ∷ xs) = go (is_word w 1 (relation_of x)) (terms_count w xs)
  where
    go : (b : Bool) → length (terms_of w xs) ≤ length xs → length (cond b (one_term x.terms) [] ++ terms_of w xs) ≤ suc (length xs)
    go true h = let a = length-append (one_term x.terms) (terms_of w xs) in let c = one_term_count x.terms in omega arith
    go false h = omega arith

pub roles_count : (rules : List Alternative) → length (role_list rules) ≤ length (listing rules).atoms
roles_count rules =
    let a = terms_count w_role (fixed_listing rules).atoms in
    let b = with_front (fixed_listing rules).atoms (context_atoms (fixed_listing rules).atoms) in
    let c = steps_front rules (record {
      atoms = with_atoms (fixed_listing rules).atoms (context_atoms (fixed_listing rules).atoms);
      kept = (fixed_listing rules).kept;
    }) (filter (λ p. not (is_fixed rules p)) (relations_in_order rules)) in
    let d = ap length b.1 ∙ length-append (fixed_listing rules).atoms b.0 in
    let e = ap length c.1 ∙ length-append (with_atoms (fixed_listing rules).atoms (context_atoms (fixed_listing rules).atoms)) c.0 in
    omega arith

count_texts : (rules : List Alternative) (rs : List Tree) → count_all (map (λ r. map text (input_list rules r)) rs) ≡ count_inputs rules rs
count_texts rules [] = refl
count_texts rules (r ∷ rs) =
    let a = length-map (input_list rules r) text in
    let b = count_texts rules rs in
    omega arith

module _ (rules : List Alternative) (w : IsWellFormed rules) where
  role_named : (r : Tree) → IsAmong r (role_list rules) → HasNames r
  role_named r a = term_named r (role_lawful rules w r ((roles_exact rules w r).0 a)).0

  texts_differ : Differ (map text (role_list rules))
  texts_differ =
      pairs_map (λ (r s : Tree). r ≡ s → ⊥) (λ (s t : List ℕ). s ≢ t) text (role_list rules) (roles_once rules w)
      (λ r s a b differ e. differ (text_once r s (role_named r a) (role_named s b) e))

  base_texts : TextsRise (map text (base_list rules))
  base_texts =
      pairs_map (λ (t u : Tree). printed_cmp t u ≡ Less) (λ (s t : List ℕ). slice_cmp nat_cmp s t ≡ Less) text (base_list rules)
      (bases_in_order rules w) (λ t u a b l. l)

  input_texts : All TextsRise (map (λ r. map text (input_list rules r)) (role_list rules))
  input_texts =
      all_map TextsRise (λ (r : Tree). map text (input_list rules r)) (role_list rules)
      (λ r a. pairs_map (λ (t u : Tree). printed_cmp t u ≡ Less) (λ (s t : List ℕ). slice_cmp nat_cmp s t ≡ Less) text (input_list rules r)
      (inputs_in_order rules w r ((roles_exact rules w r).0 a)) (λ t u b c l. l))

  head_plain : (i : Instance) → IsAmong i (listing rules).kept → source_of i.head ≡ ordinary
  head_plain i a =
      let k = (listing_exact rules w i).0 a in
      subst (λ (j : Instance). source_of j.head ≡ ordinary) k.same
      (source_under k.map k.rule.head.word k.rule.head.terms (w.heads k.rule k.kept.is_rule))

  -- the head of an instance has a number
  pub head_listed : (i : Instance) → IsAmong i (listing rules).kept → IsAmong i.head (listing rules).atoms
  head_listed i a = (atoms_exact rules w i.head (head_plain i a)).1 ((heads_exact rules w i.head).1 (i, a, refl))

  kept_numbers : All (IsKeptWithin (length (listing rules).atoms)) (map (numbered rules) (listing rules).kept)
  kept_numbers = all_map (IsKeptWithin (length (listing rules).atoms)) (numbered rules) (listing rules).kept each
    where
      each : (i : Instance) → IsAmong i (listing rules).kept → IsKeptWithin (length (listing rules).atoms) (numbered rules i)
      each i a = (
        place_below atom_eq atom_test i.head (listing rules).atoms (head_listed i a),
        all_among (λ (r : ℕ × Bool). r.0 < length (listing rules).atoms) (gate rules i) (gate_numbered rules w i a),
      )

  input_within : (r m : Tree) (k n : ℕ) → place_in r (role_list rules) ≡ Some k → place_in m (input_list rules r) ≡ Some n
      → IsInputWithin (map (λ (r : Tree). map text (input_list rules r)) (role_list rules)) k n
  input_within r m k n e f =
      let p = placed r (role_list rules) k e in
      let q = placed m (input_list rules r) n f in
      let size = length-map (role_list rules) (λ (r : Tree). map text (input_list rules r)) in
      let below = p.0 in
      let here : texts_at (map (λ (r : Tree). map text (input_list rules r)) (role_list rules)) k ≡ map text (input_list rules r)
      = get_or-map (λ (r : Tree). map text (input_list rules r)) (role_list rules) k r [] below
      ∙ ap (λ (s : Tree). map text (input_list rules s)) (p.1 r) in
      let many = ap length here ∙ length-map (input_list rules r) text in
      let less = q.0 in
      (omega arith, omega arith)

  kind_within : (x : Atom) (k : Kind) → kind_of rules x ≡ k
      → IsKindWithin (length (base_list rules)) (map (λ (r : Tree). map text (input_list rules r)) (role_list rules)) k
  kind_within x Fixed h = tt
  kind_within x (Now n) h = (placed _ (base_list rules) n (kind_sound rules w.acyclic x (Now n) h (λ e. absurd cc)).2).0
  kind_within x (Does k n) h = let m = kind_sound rules w.acyclic x (Does k n) h (λ e. absurd cc) in input_within m.0 m.1 k n m.3 m.4
  kind_within x (Next n) h = (placed _ (base_list rules) n (kind_sound rules w.acyclic x (Next n) h (λ e. absurd cc)).2).0
  kind_within x (Legal k n) h = let m = kind_sound rules w.acyclic x (Legal k n) h (λ e. absurd cc) in input_within m.0 m.1 k n m.3 m.4
  kind_within x (Goal k v) h =
      let m = kind_sound rules w.acyclic x (Goal k v) h (λ e. absurd cc) in
      let p = (placed m.0 (role_list rules) k m.2).0 in
      let size = length-map (role_list rules) (λ (r : Tree). map text (input_list rules r)) in
      (omega arith, m.3)
  kind_within x Terminal h = tt
  kind_within x Other h = tt

  all_kinds : All (IsKindWithin (length (base_list rules)) (map (λ (r : Tree). map text (input_list rules r)) (role_list rules)))
      (map (kind_of rules) (listing rules).atoms)
  all_kinds = all_map (IsKindWithin (length (base_list rules)) (map (λ (r : Tree). map text (input_list rules r)) (role_list rules))) (kind_of rules)
      (listing rules).atoms (λ x a. kind_within x (kind_of rules x) refl)

-- What is so of the lists of some rules.

pub sum_within : (n a k b i x y z : ℕ) → n ≡ a → a ≤ k + (b + i) → k ≤ x → b ≤ y → i ≤ z → n ≤ x + (y + z)
sum_within n a k b i x y z e h f g j = omega arith

module _ (roles base : List (List ℕ)) (inputs : List (List (List ℕ))) (starts : List Bool) (kinds : List Kind) (kept : List Kept) (dropped : ℕ) where
  module _ (rules : List Alternative) (g : IsGroundOf rules roles base inputs starts kinds kept dropped) where
    w : IsWellFormed rules
    w = g.well_formed

    within : IsWithinLimits wide_limits rules
    within = (excess_exact wide_limits rules).0 g.within

    base_size : length base ≡ length (base_list rules)
    base_size = ap length g.base_are ∙ length-map (base_list rules) text

    kinds_size : length kinds ≡ length (listing rules).atoms
    kinds_size = ap length g.kinds_are ∙ length-map (listing rules).atoms (kind_of rules)

    kept_size : length kept ≡ length (listing rules).kept
    kept_size = ap length g.kept_are ∙ length-map (listing rules).kept (numbered rules)

    roles_size : length roles ≡ length (role_list rules)
    roles_size = ap length g.roles_are ∙ length-map (role_list rules) text

    inputs_size : count_all inputs ≡ count_inputs rules (role_list rules)
    inputs_size = ap count_all g.inputs_are ∙ count_texts rules (role_list rules)

    starts_of : length starts ≡ length base
    starts_of = ap length g.starts_are ∙ length-map (base_list rules) (play.starts rules) ∙ sym base_size

    inputs_of : length inputs ≡ length roles
    inputs_of = ap length g.inputs_are ∙ length-map (role_list rules) (λ (r : Tree). map text (input_list rules r)) ∙ sym roles_size

    roles_of : Differ roles
    roles_of = subst (λ (ts : List (List ℕ)). Differ ts) (sym g.roles_are) (texts_differ rules w)

    base_of : TextsRise base
    base_of = subst (λ (ts : List (List ℕ)). TextsRise ts) (sym g.base_are) (base_texts rules w)

    rise_of : All TextsRise inputs
    rise_of = subst (λ (ts : List (List (List ℕ))). All TextsRise ts) (sym g.inputs_are) (input_texts rules w)

    kept_of : All (IsKeptWithin (length kinds)) kept
    kept_of =
        subst (λ (n : ℕ). All (IsKeptWithin n) kept) (sym kinds_size)
        (subst (λ (ks : List Kept). All (IsKeptWithin (length (listing rules).atoms)) ks) (sym g.kept_are) (kept_numbers rules w))

    kinds_of : All (IsKindWithin (length base) inputs) kinds
    kinds_of =
        subst (λ (n : ℕ). All (IsKindWithin n inputs) kinds) (sym base_size)
        (subst (λ (is : List (List (List ℕ))). All (IsKindWithin (length (base_list rules)) is) kinds) (sym g.inputs_are)
        (subst (λ (ks : List Kind). All (IsKindWithin (length (base_list rules))
        (map (λ (r : Tree). map text (input_list rules r)) (role_list rules))) ks) (sym g.kinds_are) (all_kinds rules w)))

    few_kept_of : length kept ≤ wide_limits.instances
    few_kept_of = subst (λ (n : ℕ). n ≤ wide_limits.instances) (sym kept_size) within.instances

    few_base_of : length base ≤ wide_limits.base
    few_base_of = subst (λ (n : ℕ). n ≤ wide_limits.base) (sym base_size) within.base

    few_inputs_of : count_all inputs ≤ wide_limits.inputs
    few_inputs_of = subst (λ (n : ℕ). n ≤ wide_limits.inputs) (sym inputs_size) within.inputs

    few_atoms_of : length kinds ≤ wide_limits.instances + (wide_limits.base + wide_limits.inputs)
    few_atoms_of = sum_within _ _ _ _ _ _ _ _ kinds_size (atoms_count rules) within.instances within.base within.inputs

    few_roles_of : length roles ≤ length kinds
    few_roles_of = let a = roles_count rules in let b = roles_size in let c = kinds_size in omega arith

  kind_prop : (n : ℕ) (k : Kind) → IsProp (IsKindWithin n inputs k)
  kind_prop n Fixed = Unit-prop
  kind_prop n (Now p) = le_prop
  kind_prop n (Does r m) = ×_prop le_prop le_prop
  kind_prop n (Next p) = le_prop
  kind_prop n (Legal r m) = ×_prop le_prop le_prop
  kind_prop n (Goal r v) = ×_prop le_prop le_prop
  kind_prop n Terminal = Unit-prop
  kind_prop n Other = Unit-prop

  kinds_prop : IsProp (All (IsKindWithin (length base) inputs) kinds)
  kinds_prop f g = λ i k d l. kind_prop (length base) (get_or kinds k d) (f k d l) (g k d l) i

  module _ (sound : ∥ IsSomeGround roles base inputs starts kinds kept dropped ∥₁) where
    pub fit_together : FitTogether roles base inputs starts kinds kept
    fit_together = record {
      starts_fit = ∥∥₁_elim sound (Prim.hlevel props) (λ g. starts_of g.0 g.1);
      inputs_fit = ∥∥₁_elim sound (Prim.hlevel props) (λ g. inputs_of g.0 g.1);
      roles_differ = ∥∥₁_elim sound (Prim.hlevel props) (λ g. roles_of g.0 g.1);
      base_rises = ∥∥₁_elim sound (Prim.hlevel props) (λ g. base_of g.0 g.1);
      inputs_rise = ∥∥₁_elim sound (Prim.hlevel props) (λ g. rise_of g.0 g.1);
      kept_within = ∥∥₁_elim sound (Prim.hlevel props) (λ g. kept_of g.0 g.1);
      kinds_within = ∥∥₁_elim sound kinds_prop (λ g. kinds_of g.0 g.1);
      few_kept = ∥∥₁_elim sound (Prim.hlevel props) (λ g. few_kept_of g.0 g.1);
      few_base = ∥∥₁_elim sound (Prim.hlevel props) (λ g. few_base_of g.0 g.1);
      few_inputs = ∥∥₁_elim sound (Prim.hlevel props) (λ g. few_inputs_of g.0 g.1);
      few_atoms = ∥∥₁_elim sound (Prim.hlevel props) (λ g. few_atoms_of g.0 g.1);
      few_roles = ∥∥₁_elim sound (Prim.hlevel props) (λ g. few_roles_of g.0 g.1);
    }
