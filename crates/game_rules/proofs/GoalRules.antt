-- The goals that the game of an instantiation gives are those of the rules.
use Rattle.std.proofs.Common.{
  ℕ,
  zero,
  suc,
  ◌<◌,
  ◌≤◌,
  Bool,
  true,
  false,
  cond,
  ◌&&◌,
  ◌≡◌,
  ◌⊎◌,
  ◌↔◌,
  inl,
  inr,
  List,
  length,
  map,
  refl,
  sym,
  ap,
  subst,
  ◌∙◌,
  arith,
  eqb-true,
  eq-eqb,
}
use Rattle.std.specs.Prelude.{◌==◌, max, decimal}
use Rattle.std.proofs.Math.Nat.{le-max_left, le-max_right, max-eq_left, max-eq_right}
use Rattle.std.proofs.lemmas.Bool.{cases_lt}
use Rattle.std.proofs.lemmas.List.{length-map}
use Rattle.statement.specs.Tree.{Tree, name}
use Rattle.kif.proofs.Facts.{both, true_and}
use Rattle.statement.specs.Words.{w_goal}
use Rattle.statement.specs.Clause.{Atom, Alternative}
use Rattle.statement.specs.declared.kind.Kind.{Kind}
use Rattle.statement.specs.declared.kind.Kind.TheVariants.{Fixed, Now, Does, Next, Legal, Goal, Terminal, Other}
use Rattle.statement.specs.Meaning.{nobody, atom2}
use Rattle.statement.specs.Listing.{listing, role_list}
use Rattle.meaning.specs.Listed.{IsWellFormed}
use Rattle.meaning.specs.Gates.{atom_at}
use Rattle.statement.specs.Kinds.{kind_of}
use Rattle.meaning.specs.Kinds.{MeansKind}
use Rattle.statement.specs.Kept.{numbered}
use Rattle.statement.specs.GoalsAndMoves.{HasGoal, IsGoal}
use Rattle.meaning.proofs.Facts.{kind_sound, roles_once}
use Rattle.statement.specs.Played.{nth_tree}
use Rattle.game_rules.specs.RulePlay.{no_turn, kind_at, holds, some_below, greatest_below, goal_value, best_goal}
use Rattle.statement.specs.GameNumbers.{state_of}
use Rattle.game_rules.proofs.Trees.{placed, place_at}
use Rattle.game_rules.proofs.ByRules.{kind_at_number, some_found, found_some, kind_holds, within_base, no_move, agree_now}

-- The greatest value.

max_is_one : (a b : ℕ) → (max a b ≡ a) ⊎ (max a b ≡ b)
max_is_one a b = elim (cases_lt a b) [ inl l ↦ inr (max-eq_right (omega arith)) | inr l ↦ inl (max-eq_left l) ]

last : (a n : ℕ) → a < suc n → (a < n) ⊎ (a ≡ n)
last a n lt = elim (cases_lt a n) [ inl l ↦ inl l | inr l ↦ inr (omega arith) ]

-- no value is greater
none_greater : (value : ℕ → ℕ) (n a : ℕ) → a < n → value a ≤ greatest_below value n
none_greater value zero a lt = absurd (omega arith)
none_greater value (suc n) a lt = go (last a n lt) (none_greater value n a)
  where
    go : (a < n) ⊎ (a ≡ n) → (a < n → value a ≤ greatest_below value n) → value a ≤ max (greatest_below value n) (value n)
    go (inl l) more = let m = more l in let k = le-max_left (greatest_below value n) (value n) in omega arith
    go (inr s) more = subst (λ (i : ℕ). value i ≤ max (greatest_below value n) (value n)) (sym s) (le-max_right (greatest_below value n) (value n))

-- it is 0 or one of the values
some_greatest : (value : ℕ → ℕ) (n : ℕ) → (greatest_below value n ≡ 0) ⊎ ((a : ℕ) × (a < n) × (value a ≡ greatest_below value n))
some_greatest value zero = inl refl
some_greatest value (suc n) = go (max_is_one (greatest_below value n) (value n)) (some_greatest value n)
  where
    go : (max (greatest_below value n) (value n) ≡ greatest_below value n) ⊎ (max (greatest_below value n) (value n) ≡ value n)
        → (greatest_below value n ≡ 0) ⊎ ((a : ℕ) × (a < n) × (value a ≡ greatest_below value n))
        → (max (greatest_below value n) (value n) ≡ 0) ⊎ ((a : ℕ) × (a < suc n) × (value a ≡ max (greatest_below value n) (value n)))
    go (inl e) (inl z) = inl (e ∙ z)
    go (inl e) (inr r) = let lt = r.1 in inr (r.0, omega arith, r.2 ∙ sym e)
    go (inr e) more = inr (n, omega arith, sym e)

-- Kinds of goals.

abbrev gives_goal : ℕ → ℕ → Kind → Bool
gives_goal r v Fixed = false
gives_goal r v (Now p) = false
gives_goal r v (Does q m) = false
gives_goal r v (Next p) = false
gives_goal r v (Legal q m) = false
gives_goal r v (Goal q u) = (q == r) && (u == v)
gives_goal r v Terminal = false
gives_goal r v Other = false

goal_only : (r v : ℕ) (c : Kind) → gives_goal r v c ≡ true → c ≡ Goal r v
goal_only r v Fixed e = absurd cc
goal_only r v (Now p) e = absurd cc
goal_only r v (Does q m) e = absurd cc
goal_only r v (Next p) e = absurd cc
goal_only r v (Legal q m) e = absurd cc
goal_only r v (Goal q u) e =
    let b = both (q == r) (u == v) e in ap (λ (i : ℕ). Goal i u) (eqb-true q r b.0) ∙ ap (Goal r) (eqb-true u v b.1)
goal_only r v Terminal e = absurd cc
goal_only r v Other e = absurd cc

goal_is : (r v : ℕ) → gives_goal r v (Goal r v) ≡ true
goal_is r v = true_and _ _ (eq-eqb r r refl) (eq-eqb v v refl)

value_is : (r v : ℕ) → goal_value r (Goal r v) ≡ v
value_is r v = let h = eq-eqb r r refl in rw h refl

-- a value other than 0 is that of a goal
valued_only : (r v : ℕ) (c : Kind) → goal_value r c ≡ suc v → c ≡ Goal r (suc v)
valued_only r v Fixed e = absurd cc
valued_only r v (Now p) e = absurd cc
valued_only r v (Does q m) e = absurd cc
valued_only r v (Next p) e = absurd cc
valued_only r v (Legal q m) e = absurd cc
valued_only r v (Goal q u) e = go (q == r) refl e
  where
    go : (b : Bool) → (q == r) ≡ b → cond b u 0 ≡ suc v → Goal q u ≡ Goal r (suc v)
    go true h f = ap (λ (i : ℕ). Goal i u) (eqb-true q r h) ∙ ap (Goal r) f
    go false h f = absurd cc
valued_only r v Terminal e = absurd cc
valued_only r v Other e = absurd cc

module _ (rules : List Alternative) (w : IsWellFormed rules) (s : List ℕ) (r : ℕ) (inside : r < length (role_list rules)) where
  abbrev role : Tree
  role = nth_tree (role_list rules) r

  abbrev kinds : List Kind
  kinds = map (kind_of rules) (listing rules).atoms

  abbrev right : ℕ → Bool
  right = holds kinds (map (numbered rules) (listing rules).kept) s no_turn

  abbrev value : ℕ → ℕ
  value a = cond (right a) (goal_value r (kind_at kinds a)) 0

  abbrev test : ℕ → ℕ → Bool
  test v a = right a && gives_goal r v (kind_at kinds a)

  goal_holds : (v : ℕ) → v ≤ 100 → (some_below (test v) (length kinds) ≡ true) ↔ HasGoal rules (state_of rules s) role v
  goal_holds v small =
      kind_holds rules w (state_of rules s) nobody (within_base rules w s) (no_move rules w s) s no_turn (agree_now rules w s) (gives_goal r v)
      (Goal r v)
      (atom2 w_goal role (name (decimal v))) (goal_only r v) (goal_is r v) (λ e. absurd cc) (λ e. absurd cc)
      (role, refl, place_at (role_list rules) (roles_once rules w) r inside, small)
      once refl
    where
      once : (z : Atom) → MeansKind rules z (Goal r v) → z ≡ atom2 w_goal role (name (decimal v))
      once z m = m.1 ∙ ap (λ (q : Tree). atom2 w_goal q (name (decimal v))) (sym (placed m.0 (role_list rules) r m.2))

  -- no goal that holds is greater
  within_best : (v : ℕ) → v ≤ 100 → HasGoal rules (state_of rules s) role v → v ≤ best_goal kinds right r
  within_best v small h =
      let f = some_found (test v) (length kinds) ((goal_holds v small).1 h) in
      let a = f.0 in
      let b = both (right a) (gives_goal r v (kind_at kinds a)) f.2 in
      let same : value a ≡ v = ap (λ (t : Bool). cond t (goal_value r (kind_at kinds a)) 0) b.0
      ∙ ap (goal_value r) (goal_only r v (kind_at kinds a) b.1) ∙ value_is r v in
      subst (λ (u : ℕ). u ≤ best_goal kinds right r) same (none_greater value (length kinds) a f.1)

  small_goal : (a v : ℕ) → a < length kinds → kind_at kinds a ≡ Goal r v → v ≤ 100
  small_goal a v lt e =
      let size = length-map (listing rules).atoms (kind_of rules) in
      let below : a < length (listing rules).atoms = omega arith in
      let m = kind_sound rules w.acyclic (atom_at (listing rules).atoms a) (Goal r v)
      (sym (kind_at_number (kind_of rules) (listing rules).atoms a below) ∙ e) (λ f. absurd cc) in
      m.3

  -- a value other than 0 is a goal that holds
  value_holds : (a v : ℕ) → a < length kinds → value a ≡ suc v → (suc v ≤ 100) × HasGoal rules (state_of rules s) role (suc v)
  value_holds a v lt e = go (right a) refl e
    where
      go : (b : Bool) → right a ≡ b → cond b (goal_value r (kind_at kinds a)) 0 ≡ suc v → (suc v ≤ 100)
          × HasGoal rules (state_of rules s) role (suc v)
      go true h f =
          let kind = valued_only r v (kind_at kinds a) f in
          let small = small_goal a (suc v) lt kind in (
            small,
            (goal_holds (suc v) small).0 (found_some (test (suc v)) (length kinds) a lt
                (true_and _ _ h (ap (gives_goal r (suc v)) kind ∙ goal_is r (suc v)))),
          )
      go false h f = absurd cc

  best_is : (v : ℕ) → best_goal kinds right r ≡ v → IsGoal rules (state_of rules s) role v
  best_is (suc v) e = go (some_greatest value (length kinds))
    where
      go : (best_goal kinds right r ≡ 0) ⊎ ((a : ℕ) × (a < length kinds) × (value a ≡ best_goal kinds right r))
          → IsGoal rules (state_of rules s) role (suc v)
      go (inl z) = absurd cc
      go (inr f) =
          let k = value_holds f.0 v f.1 (f.2 ∙ e) in
          inl (k.0, k.1, (λ u more small h. let l = within_best u small h in absurd (omega arith)))
  best_is zero e = go (some_below (test 0) (length kinds)) refl
    where
      none : some_below (test 0) (length kinds) ≡ false → (u : ℕ) → u ≡ 0 → HasGoal rules (state_of rules s) role u → ⊥
      none f u z h = let k = (goal_holds 0 (omega arith)).1 (subst (λ (n : ℕ). HasGoal rules (state_of rules s) role n) z h) in cc

      go : (b : Bool) → some_below (test 0) (length kinds) ≡ b → IsGoal rules (state_of rules s) role zero
      go true f = inl (omega arith, (goal_holds 0 (omega arith)).0 f, (λ u more small h. let l = within_best u small h in absurd (omega arith)))
      go false f = inr (refl, (λ u small h. let l = within_best u small h in none f u (omega arith) h))

  pub goal_are : IsGoal rules (state_of rules s) role (best_goal kinds right r)
  goal_are = best_is (best_goal kinds right r) refl
