use Rattle.std.proofs.Common.{◌≡◌, ℕ, ◌<◌, ◌≤◌}
use Rattle.std.specs.Fmt.{decimal}
use Rattle.search_split.proofs.cut.level_of.Given as goal

abbrev pub invariant-loop-level : goal.invariant-loop-level
invariant-loop-level l = record { none : (n : ℕ) → 1 ≤ n → n < l.level → decimal n ≡ l.text → ⊥; some : 1 ≤ l.level }
