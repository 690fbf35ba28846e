-- Whether a value is settled, by two comparisons with it.
use Rattle.std.proofs.Common.{ℕ, ◌≡◌, ◌≤◌, ◌+◌, true, false, refl, ap, subst, ◌∙◌, arith}
use Rattle.std.specs.Prelude.{nat_le}
use Rattle.statement.specs.declared.at_bound.AtBound.{AtBound}
use Rattle.statement.specs.declared.at_bound.AtBound.TheVariants.{Zero, Unfinished}
use Rattle.statement.specs.declared.at_bound.Worth.{Worth}
use Rattle.statement.specs.Rules.{Rules, State}
use Rattle.statement.specs.Value.{value}
use Rattle.statement.specs.Deepening.{least_worth, greatest_worth, is_settled}
use Rattle.game.specs.Settled.{AreGoals}
use Rattle.game.proofs.Facts.{more_turns_rise}
use Rattle.program_searches.proofs.Settles.{not_settled, settles}

-- with 100 for unfinished play no state is worth less than it is within more turns
abbrev pub FallsFurther : Type 0
FallsFurther =
    (g : Rules) → AreGoals g → (role depth more : ℕ) (all : Worth) (at : AtBound) (s : State) → all.value ≡ 100
    → value g role (depth + more) at s ≤ value g role depth (Unfinished all) s

module _ (falls : FallsFurther) (g : Rules) (goals : AreGoals g) (role depth : ℕ) (at : AtBound) (s : State) where
  lower : value g role depth (Unfinished least_worth) s ≤ value g role depth at s
  lower = more_turns_rise g role (Unfinished least_worth) (λ goal. refl) depth depth (omega arith) at s

  upper : value g role depth at s ≤ value g role depth (Unfinished greatest_worth) s
  upper =
      let no_more : depth + 0 ≡ depth = omega arith in
      subst (λ (d : ℕ). value g role d at s ≤ value g role depth (Unfinished greatest_worth) s) no_more (falls g goals role depth 0 greatest_worth at s refl)

  zero_is : value g role depth (Unfinished least_worth) s ≡ value g role depth Zero s
  zero_is =
      let low = more_turns_rise g role (Unfinished least_worth) (λ goal. refl) depth depth (omega arith) Zero s in
      let high = more_turns_rise g role Zero (λ goal. refl) depth depth (omega arith) (Unfinished least_worth) s in
      omega (arith, low, high)

  -- where the value is more than that with nothing it is not settled
  pub not_low : nat_le (value g role depth at s) (value g role depth Zero s) ≡ false → is_settled g role s depth ≡ false
  not_low h =
      not_settled (value g role depth (Unfinished least_worth) s) (value g role depth at s) (value g role depth (Unfinished greatest_worth) s) lower upper
      (ap (nat_le (value g role depth at s)) zero_is ∙ h)

  -- and where it is not, it is settled where it is no less than that with 100
  pub by_most : nat_le (value g role depth at s) (value g role depth Zero s) ≡ true
      → nat_le (value g role depth (Unfinished greatest_worth) s) (value g role depth at s) ≡ is_settled g role s depth
  by_most h =
      settles (value g role depth (Unfinished least_worth) s) (value g role depth at s) (value g role depth (Unfinished greatest_worth) s) lower upper
      (ap (nat_le (value g role depth at s)) zero_is ∙ h)
