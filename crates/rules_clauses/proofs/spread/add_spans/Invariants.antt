use Rattle.std.proofs.Common.{◌≡◌, ◌++◌, drop}
use Rattle.rules_clauses.specs.Spread.{numbers_in}
use Rattle.rules_clauses.proofs.spread.add_spans.Given as goal

abbrev pub invariant-loop-span : goal.invariant-loop-span
invariant-loop-span l =
    numbers_in l.spans.items ++ numbers_in (drop l.span-index l.more) ≡ numbers_in l.fn.spans.items ++ numbers_in l.more
