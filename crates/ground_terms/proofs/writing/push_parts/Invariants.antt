use Rattle.std.proofs.Common.{ℕ, ◌≡◌, ◌++◌, ◌≤◌, ◌<◌, length, map, reverse, drop}
use Rattle.ground_terms.specs.declared.writing.Pending.TheVariants.{Term}
use Rattle.ground_terms.proofs.writing.push_parts.Given as goal

abbrev pub invariant-loop-left : goal.invariant-loop-left
invariant-loop-left l = record {
  pushed : l.pending.items ≡ l.initial.pending.items ++ reverse (map (λ (k : ℕ). Term k) (drop l.left l.key));
  some : 0 < l.left;
  within : l.left ≤ length l.key;
}

abbrev pub decreases-loop-left : goal.decreases-loop-left
decreases-loop-left l = l.left
