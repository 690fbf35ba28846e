use Rattle.std.proofs.Common.{◌≡◌, ◌≤◌, drop, length}
use Rattle.util_interner.proofs.key_table.are_same.Given as goal

abbrev pub invariant-loop-left : goal.invariant-loop-left
invariant-loop-left l = record {
  within : l.left ≤ length l.key;
  same : drop l.left l.key ≡ drop l.left l.other;
}

abbrev pub decreases-loop-left : goal.decreases-loop-left
decreases-loop-left l = l.left
