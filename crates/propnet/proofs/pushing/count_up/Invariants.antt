use Rattle.std.proofs.Common.{◌≡◌, ◌+◌, ◌-◌, ◌≤◌, ◌++◌}
use Rattle.std.specs.Prelude.{vec_len, vec_capacity}
use Rattle.std.specs.List.{range_with_len}
use Rattle.propnet.proofs.pushing.count_up.Given as goal

-- the numbers before this one are written, and there is room for the others
abbrev pub invariant-loop-number : goal.invariant-loop-number
invariant-loop-number l = record {
  room : vec_len l.operands + (l.fn.end - l.number) ≤ vec_capacity l.operands;
  written : l.operands.items ≡ l.initial.operands.items ++ range_with_len l.fn.start (l.number - l.fn.start);
}
