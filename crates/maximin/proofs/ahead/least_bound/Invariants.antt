use Rattle.std.proofs.Common.{ℕ, List}
use Rattle.std.specs.Prelude.{ℤ, map, ◌≤ℤ◌}
use Rattle.statement.specs.Rules.{State}
use Rattle.statement.specs.Value.{least}
use Rattle.maximin.specs.Ahead.{IsAheadOf}
use Rattle.maximin.specs.Answer.{IsUpperBound}
use Rattle.maximin.proofs.ahead.least_bound.Given as goal

-- upper is no more than the bound, and an upper bound if that is one
abbrev pub invariant-loop-place : goal.invariant-loop-place
invariant-loop-place l = record {
  at_most : l.upper ≤ℤ l.fn.b.worth;
  bound : (states : List State) (worth : State → ℕ → ℕ) (depth : ℕ) (top : ℤ) → IsAheadOf states worth depth l.ahead → l.fn.b.worth ≤ℤ top
      → IsUpperBound (λ d. least (map (λ s. worth s d) states)) depth top l.fn.b
      → IsUpperBound (λ d. least (map (λ s. worth s d) states)) depth top (record { worth = l.upper; lasts = l.lasts });
}
