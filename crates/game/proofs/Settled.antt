-- What a role can be sure of lies between what it is sure of within fewer turns where a state at the bound is worth nothing, and where
-- it is worth all.
use Rattle.std.proofs.Common.{ℕ, zero, suc, ◌+◌, ◌≤◌, ◌≡◌, Bool, true, false, cond, List, [], ◌∷◌, refl, subst, sym, arith}
use Rattle.std.specs.Prelude.{map, max, min}
use Rattle.statement.specs.declared.at_bound.AtBound.{AtBound}
use Rattle.statement.specs.declared.at_bound.AtBound.TheVariants.{Zero, Goal, Unfinished}
use Rattle.statement.specs.declared.at_bound.Worth.{Worth}
use Rattle.statement.specs.AtBound.{bound_worth}
use Rattle.statement.specs.Rules.{Rules, State, Turn, is_stuck, turns_with}
use Rattle.statement.specs.Value.{greatest, least, least_after, value}
use Rattle.game.specs.Settled.{AreGoals, IsSettled}

least_rises : {A : Type 0} (f h : A → ℕ) → ((x : A) → f x ≤ h x) → (xs : List A) → least (map f xs) ≤ least (map h xs)
least_rises f h all [] = omega arith
least_rises f h all (x ∷ []) = all x
least_rises f h all (x ∷ y ∷ rest) = let further = least_rises f h all (y ∷ rest) in let here = all x in omega (arith, further, here)

greatest_rises : {A : Type 0} (f h : A → ℕ) → ((x : A) → f x ≤ h x) → (xs : List A) → greatest (map f xs) ≤ greatest (map h xs)
greatest_rises f h all [] = omega arith
greatest_rises f h all (x ∷ rest) = let further = greatest_rises f h all rest in let here = all x in omega (arith, further, here)

least_low : {A : Type 0} (h : A → ℕ) (n : ℕ) → ((x : A) → h x ≤ n) → (xs : List A) → least (map h xs) ≤ n
least_low h n all [] = omega arith
least_low h n all (x ∷ []) = all x
least_low h n all (x ∷ y ∷ rest) = let here = all x in omega (arith, here)

greatest_low : {A : Type 0} (h : A → ℕ) (n : ℕ) → ((x : A) → h x ≤ n) → (xs : List A) → greatest (map h xs) ≤ n
greatest_low h n all [] = omega arith
greatest_low h n all (x ∷ rest) = let further = greatest_low h n all rest in let here = all x in omega (arith, further, here)

-- of two states that are alike but for what they are worth while play goes on
chosen_rises : (ended stuck : Bool) (goal x y : ℕ) → x ≤ y → cond ended goal (cond stuck 0 x) ≤ cond ended goal (cond stuck 0 y)
chosen_rises true stuck goal x y h = omega arith
chosen_rises false true goal x y h = omega arith
chosen_rises false false goal x y h = h

chosen_low : (ended stuck : Bool) (goal x : ℕ) → goal ≤ 100 → x ≤ 100 → cond ended goal (cond stuck 0 x) ≤ 100
chosen_low true stuck goal x g h = g
chosen_low false true goal x g h = omega arith
chosen_low false false goal x g h = h

bound_low : (at : AtBound) (goal : ℕ) → goal ≤ 100 → bound_worth at goal ≤ 100
bound_low Zero goal h = omega arith
bound_low Goal goal h = h
bound_low (Unfinished worth) goal h = worth.in_range

module _ (g : Rules) (role : ℕ) where
  after_rises : (u v : State → ℕ) → ((s : State) → u s ≤ v s) → (s : State)
      → greatest (map (λ m. least_after g u s role m) (g.legal s role)) ≤ greatest (map (λ m. least_after g v s role m) (g.legal s role))
  after_rises u v all s =
      greatest_rises (λ m. least_after g u s role m) (λ m. least_after g v s role m)
      (λ m. least_rises (λ j. u (g.after s j)) (λ j. v (g.after s j)) (λ j. all (g.after s j)) (turns_with g s role m)) (g.legal s role)

  -- where a state at the bound is worth no less, no state is worth less
  pub value_rises : (lower upper : AtBound) → ((goal : ℕ) → bound_worth lower goal ≤ bound_worth upper goal) → (depth : ℕ) (s : State)
      → value g role depth lower s ≤ value g role depth upper s
  value_rises lower upper more zero s = chosen_rises (g.ended s) (is_stuck g s) (g.goal s role) _ _ (more (g.goal s role))
  value_rises lower upper more (suc depth) s =
      chosen_rises (g.ended s) (is_stuck g s) (g.goal s role) _ _
      (after_rises (value g role depth lower) (value g role depth upper) (value_rises lower upper more depth) s)

  -- where nothing is sure at the bound, more turns make no state worth less
  pub more_turns_rise : (lower : AtBound) → ((goal : ℕ) → bound_worth lower goal ≡ 0) → (depth later : ℕ) → depth ≤ later → (at : AtBound) (s : State)
      → value g role depth lower s ≤ value g role later at s
  more_turns_rise lower nothing zero zero le at s =
      chosen_rises (g.ended s) (is_stuck g s) (g.goal s role) _ _
      (subst (λ (n : ℕ). n ≤ bound_worth at (g.goal s role)) (sym (nothing (g.goal s role))) (omega arith))
  more_turns_rise lower nothing zero (suc later) le at s =
      chosen_rises (g.ended s) (is_stuck g s) (g.goal s role) _ _
      (subst (λ (n : ℕ). n ≤ greatest (map (λ m. least_after g (value g role later at) s role m) (g.legal s role))) (sym (nothing (g.goal s role)))
      (omega arith))
  more_turns_rise lower nothing (suc depth) zero le at s = absurd (omega (arith, le))
  more_turns_rise lower nothing (suc depth) (suc later) le at s =
      chosen_rises (g.ended s) (is_stuck g s) (g.goal s role) _ _
      (after_rises (value g role depth lower) (value g role later at) (more_turns_rise lower nothing depth later (omega (arith, le)) at) s)

  -- with nothing at the bound, some turns more
  pub value_rising : (s : State) (d e : ℕ) → d ≤ e → value g role d Zero s ≤ value g role e Zero s
  value_rising s d e le = more_turns_rise Zero (λ goal. refl) d e le Zero s

  module _ (goals : (s : State) → g.goal s role ≤ 100) where
    -- where no goal is above 100, no value is
    pub value_within : (depth : ℕ) (at : AtBound) (s : State) → value g role depth at s ≤ 100
    value_within zero at s = chosen_low (g.ended s) (is_stuck g s) (g.goal s role) _ (goals s) (bound_low at (g.goal s role) (goals s))
    value_within (suc depth) at s =
        chosen_low (g.ended s) (is_stuck g s) (g.goal s role) _ (goals s)
        (greatest_low (λ m. least_after g (value g role depth at) s role m) 100
        (λ m. least_low (λ j. value g role depth at (g.after s j)) 100 (λ j. value_within depth at (g.after s j)) (turns_with g s role m))
        (g.legal s role))

    -- where all is sure at the bound, more turns make no state worth more
    pub more_turns_fall : (upper : AtBound) → ((goal : ℕ) → bound_worth upper goal ≡ 100) → (depth later : ℕ) → depth ≤ later → (at : AtBound) (s : State)
        → value g role later at s ≤ value g role depth upper s
    more_turns_fall upper all zero zero le at s =
        chosen_rises (g.ended s) (is_stuck g s) (g.goal s role) _ _
        (subst (λ (n : ℕ). bound_worth at (g.goal s role) ≤ n) (sym (all (g.goal s role))) (bound_low at (g.goal s role) (goals s)))
    more_turns_fall upper all zero (suc later) le at s =
        chosen_rises (g.ended s) (is_stuck g s) (g.goal s role) _ _
        (subst (λ (n : ℕ). greatest (map (λ m. least_after g (value g role later at) s role m) (g.legal s role)) ≤ n) (sym (all (g.goal s role)))
        (greatest_low (λ m. least_after g (value g role later at) s role m) 100
        (λ m. least_low (λ j. value g role later at (g.after s j)) 100 (λ j. value_within later at (g.after s j)) (turns_with g s role m))
        (g.legal s role)))
    more_turns_fall upper all (suc depth) zero le at s = absurd (omega (arith, le))
    more_turns_fall upper all (suc depth) (suc later) le at s =
        chosen_rises (g.ended s) (is_stuck g s) (g.goal s role) _ _
        (after_rises (value g role later at) (value g role depth upper) (more_turns_fall upper all depth later (omega (arith, le)) at) s)

-- As the laws state it.

pub worth_rises : (g : Rules) (role depth : ℕ) (less more : Worth) (s : State) → less.value ≤ more.value
    → value g role depth (Unfinished less) s ≤ value g role depth (Unfinished more) s
worth_rises g role depth less more s h = value_rises g role (Unfinished less) (Unfinished more) (λ goal. h) depth s

pub nothing_is_zero : (g : Rules) (role depth : ℕ) (none : Worth) (s : State) → none.value ≡ 0
    → value g role depth Zero s ≡ value g role depth (Unfinished none) s
nothing_is_zero g role depth none s h =
    let low = value_rises g role Zero (Unfinished none) (λ goal. omega arith) depth s in
    let high = value_rises g role (Unfinished none) Zero (λ goal. omega (arith, h)) depth s in
    omega (arith, low, high)

pub lower_stays : (g : Rules) → AreGoals g → (role depth more : ℕ) (none : Worth) (at : AtBound) (s : State) → none.value ≡ 0
    → value g role depth (Unfinished none) s ≤ value g role (depth + more) at s
lower_stays g goals role depth more none at s h = more_turns_rise g role (Unfinished none) (λ goal. h) depth (depth + more) (omega arith) at s

pub upper_stays : (g : Rules) → AreGoals g → (role depth more : ℕ) (all : Worth) (at : AtBound) (s : State) → all.value ≡ 100
    → value g role (depth + more) at s ≤ value g role depth (Unfinished all) s
upper_stays g goals role depth more all at s h = more_turns_fall g role (λ t. goals t role) (Unfinished all) (λ goal. h) depth (depth + more) (omega arith) at s

pub settled_stays : (g : Rules) → AreGoals g → (role depth n : ℕ) (s : State) → IsSettled g role depth s n
    → (more : ℕ) (at : AtBound) → value g role (depth + more) at s ≡ n
settled_stays g goals role depth n s settled more at =
    let low = lower_stays g goals role depth more settled.none at s settled.of_none in
    let high = upper_stays g goals role depth more settled.all at s settled.of_all in
    let below = settled.with_none in
    let above = settled.with_all in
    omega (arith, low, high, below, above)

pub one_turn_rises : (g : Rules) (role depth : ℕ) (s : State) → value g role depth Zero s ≤ value g role (suc depth) Zero s
one_turn_rises g role depth s = value_rising g role s depth (suc depth) (omega arith)
