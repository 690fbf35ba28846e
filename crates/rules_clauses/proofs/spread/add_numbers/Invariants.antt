use Rattle.std.proofs.Common.{◌≡◌, ◌++◌, ◌-◌}
use Rattle.std.specs.List.{range_with_len}
use Rattle.rules_clauses.specs.Spread.{numbers_of}
use Rattle.rules_clauses.proofs.spread.add_numbers.Given as goal

abbrev pub invariant-loop-number : goal.invariant-loop-number
invariant-loop-number l = l.numbers.items ++ range_with_len l.number (l.fn.span.to - l.number) ≡ l.fn.numbers.items ++ numbers_of l.fn.span
