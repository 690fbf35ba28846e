use Rattle.std.proofs.Common.{true, false, ℕ, ◌≤◌, Bool, List, [], ◌∷◌, zero, suc, arith}
use Rattle.std.specs.Prelude.{map, if◌then◌else◌}
use Rattle.statement.specs.Rules.{Rules, State, Turn, is_stuck, turns_with}
use Rattle.statement.specs.declared.at_bound.AtBound.{AtBound}
use Rattle.statement.specs.declared.at_bound.AtBound.TheVariants.{Zero, Goal, Unfinished}
use Rattle.statement.specs.AtBound.{bound_worth}
use Rattle.statement.specs.Value.{value, worst, least, greatest}
use Rattle.maximin.proofs.Windows.{least_head}

if_at_most : (b : Bool) (x y n : ℕ) → x ≤ n → y ≤ n → (if b then x else y) ≤ n
if_at_most true x y n h k = h
if_at_most false x y n h k = k

bound_at_most : (at : AtBound) (goal : ℕ) → goal ≤ 100 → bound_worth at goal ≤ 100
bound_at_most Zero goal h = omega arith
bound_at_most Goal goal h = h
bound_at_most (Unfinished worth) goal h = worth.in_range

least_at_most : (f : Turn → ℕ) (n : ℕ) (turns : List Turn) → ((t : Turn) → f t ≤ n) → least (map f turns) ≤ n
least_at_most f n [] h = omega arith
least_at_most f n (t ∷ turns) h = omega (arith, least_head (f t) (map f turns), h t)

greatest_at_most : (f : ℕ → ℕ) (n : ℕ) (moves : List ℕ) → ((m : ℕ) → f m ≤ n) → greatest (map f moves) ≤ n
greatest_at_most f n [] h = omega arith
greatest_at_most f n (m ∷ moves) h = let rest = greatest_at_most f n moves h in omega (arith, h m)

-- where no goal is above 100, no value is
pub value_at_most : (g : Rules) (role : ℕ) → ((s : State) (r : ℕ) → g.goal s r ≤ 100) → (depth : ℕ) (at : AtBound) (s : State)
    → value g role depth at s ≤ 100
value_at_most g role goals zero at s =
    if_at_most (g.ended s) (g.goal s role) _ 100 (goals s role)
    (if_at_most (is_stuck g s) 0 _ 100 (omega arith) (bound_at_most at (g.goal s role) (goals s role)))
value_at_most g role goals (suc depth) at s =
    if_at_most (g.ended s) (g.goal s role) _ 100 (goals s role)
    (if_at_most (is_stuck g s) 0 _ 100 (omega arith)
    (greatest_at_most (λ m. worst g role depth at s m) 100 (g.legal s role)
    (λ m. least_at_most (λ j. value g role depth at (g.after s j)) 100 (turns_with g s role m)
    (λ j. value_at_most g role goals depth at (g.after s j)))))

pub worst_at_most : (g : Rules) (role : ℕ) → ((s : State) (r : ℕ) → g.goal s r ≤ 100) → (depth : ℕ) (at : AtBound) (s : State) (own : ℕ)
    → worst g role depth at s own ≤ 100
worst_at_most g role goals depth at s own = least_at_most (λ j. value g role depth at (g.after s j)) 100 (turns_with g s role own)
    (λ j. value_at_most g role goals depth at (g.after s j))
