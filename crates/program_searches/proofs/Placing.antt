-- Where a value lies in a window, by what a search within it answers, and what is told then.
use Rattle.std.proofs.Common.{ℕ, ◌≡◌, ◌<◌, ◌≤◌, ◌-◌, ◌∙◌, refl, subst, Bool, true, false, cond, arith, List, codes}
use Rattle.std.proofs.lemmas.Int.{ints, clamps}
use Rattle.std.proofs.lemmas.Bool.Decides.{nat_tests}
use Rattle.std.specs.Prelude.{ℤ, pos, ◌-ℤ◌, ◌<ℤ◌, ◌≤ℤ◌, nat_lt}
use Rattle.std.specs.Int.Signed.{le_z}
use Rattle.statement.specs.declared.at_bound.AtBound.{AtBound}
use Rattle.statement.specs.declared.window.Window.{Window}
use Rattle.statement.specs.NamedRules.{NamedRules}
use Rattle.statement.specs.Rules.{State}
use Rattle.statement.specs.Value.{value}
use Rattle.statement.specs.Checking.{count_line}
use Rattle.statement.specs.Solving.{solve_lines}
use Rattle.statement.specs.Within.{at_least_lines, window_lines}
use Rattle.game.specs.Value.{Answers}
use Rattle.maximin.specs.Tools.{IsWindow}
use Rattle.program_searches.specs.declared.windowed.Placed.{Placed}
use Rattle.program_searches.specs.declared.windowed.Placed.TheVariants.{Below, Between, Above}
use Rattle.program_searches.specs.Windows.{IsPlaced}

is_less : (x y : ℕ) → x < y → nat_lt x y ≡ true
is_less x y h = grind (arith, nat_tests)

is_no_less : (x y : ℕ) → y ≤ x → nat_lt x y ≡ false
is_no_less x y h = grind (arith, nat_tests)

pub at_most_z : (a b : ℤ) → le_z a b ≡ true → a ≤ℤ b
at_most_z a b h = grind (arith, ints)

pub above_z : (a b : ℤ) → le_z a b ≡ false → b <ℤ a
above_z a b h = grind (arith, ints)

-- the bounds of a window are bounds for a search
pub searched : (from to : ℕ) (a b : ℤ) → from ≤ to → to ≤ 101 → a ≡ pos from -ℤ pos 1 → b ≡ pos to → IsWindow a b
searched from to a b order few low high =
    record { low = omega (arith, ints); order = omega (arith, ints); high = omega (arith, ints) }

pub placed_below : (v from to : ℕ) (a b r : ℤ) → from ≤ to → a ≡ pos from -ℤ pos 1 → b ≡ pos to → Answers v a b r → r ≤ℤ a
    → nat_lt v from ≡ true
placed_below v from to a b r order low high is less =
    let bottom = is.at_least in
    is_less v from (omega (arith, ints, clamps))

pub placed_above : (v from to : ℕ) (a b r : ℤ) → from ≤ to → a ≡ pos from -ℤ pos 1 → b ≡ pos to → Answers v a b r → b ≤ℤ r
    → (nat_lt v from ≡ false) × (nat_lt v to ≡ false)
placed_above v from to a b r order low high is more =
    let top = is.at_most in
    (is_no_less v from (omega (arith, ints, clamps)), is_no_less v to (omega (arith, ints, clamps)))

pub placed_between : (v from to : ℕ) (a b r : ℤ) → from ≤ to → a ≡ pos from -ℤ pos 1 → b ≡ pos to → Answers v a b r → a <ℤ r → r <ℤ b
    → (nat_lt v from ≡ false) × (nat_lt v to ≡ true) × (r ≡ pos v)
placed_between v from to a b r order low high is more less =
    let bottom = is.at_least in
    let top = is.at_most in
    let same : r ≡ pos v = omega (arith, ints, clamps) in
    (is_no_less v from (omega (arith, ints)), is_less v to (omega (arith, ints)), same)

where_so : (b : Bool) (x y : List ℕ) → b ≡ true → cond b x y ≡ x
where_so b x y e = rw e refl

where_not : (b : Bool) (x y : List ℕ) → b ≡ false → cond b x y ≡ y
where_not b x y e = rw e refl

module _ (g : NamedRules) (w : Window) (role depth : ℕ) (at : AtBound) (s : State) (p : Placed)
    (is : IsPlaced w (value g.rules role depth at s) p) where
  pub told_below : p ≡ Below → window_lines g w role depth at s ≡ count_line (codes "at-most") (w.from - 1)
  told_below same =
      let here : nat_lt (value g.rules role depth at s) w.from ≡ true = subst (IsPlaced w (value g.rules role depth at s)) same is in
      where_so (nat_lt (value g.rules role depth at s) w.from) _ _ here

  pub told_between : (worth : ℤ) → p ≡ Between worth → window_lines g w role depth at s ≡ solve_lines g role depth at s
  told_between worth same =
      let here : IsPlaced w (value g.rules role depth at s) (Between worth) = subst (IsPlaced w (value g.rules role depth at s)) same is in
      where_not (nat_lt (value g.rules role depth at s) w.from) _ _ here.0
      ∙ where_so (nat_lt (value g.rules role depth at s) w.to) _ _ here.1

  pub worth_between : (worth : ℤ) → p ≡ Between worth → worth ≡ pos (value g.rules role depth at s)
  worth_between worth same =
      let here : IsPlaced w (value g.rules role depth at s) (Between worth) = subst (IsPlaced w (value g.rules role depth at s)) same is in
      here.2

  pub told_above : p ≡ Above → window_lines g w role depth at s ≡ at_least_lines g role depth at w.to s
  told_above same =
      let here : IsPlaced w (value g.rules role depth at s) Above = subst (IsPlaced w (value g.rules role depth at s)) same is in
      where_not (nat_lt (value g.rules role depth at s) w.from) _ _ here.0
      ∙ where_not (nat_lt (value g.rules role depth at s) w.to) _ _ here.1
