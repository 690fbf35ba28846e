use Rattle.std.proofs.Common.{length, take, ◌≤◌, ◌≡◌}
use Rattle.kif.proofs.printed_order.common_length.Given as goal

abbrev pub invariant-loop-index : goal.invariant-loop-index
invariant-loop-index l = record {
  within : l.index ≤ length l.y;
  same : take l.index l.x ≡ take l.index l.y;
}
