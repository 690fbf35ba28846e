use Rattle.std.proofs.Common.{ℕ, List}
use Rattle.std.specs.Prelude.{map, pos, ◌≤ℤ◌}
use Rattle.std.specs.Int.{int_max}
use Rattle.statement.specs.Rules.{State}
use Rattle.statement.specs.Value.{greatest}
use Rattle.maximin.specs.Ahead.{IsAheadOf}
use Rattle.maximin.proofs.ahead.greatest_bound.Given as goal

abbrev pub invariant-loop-place : goal.invariant-loop-place
invariant-loop-place l = record {
  at_least : l.a ≤ℤ l.lower;
  at_most : (states : List State) (worth : State → ℕ → ℕ) (depth : ℕ) → IsAheadOf states worth depth l.ahead
      → l.lower ≤ℤ int_max (pos (greatest (map (λ s. worth s depth) states))) l.a;
}
