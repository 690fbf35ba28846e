use Rattle.std.proofs.Common.{◌≡◌, ◌++◌, drop}
use Rattle.rules_clauses.specs.Spread.{numbers_in}
use Rattle.rules_clauses.proofs.spread.numbers_at.Given as goal

abbrev pub invariant-loop-span : goal.invariant-loop-span
invariant-loop-span l = l.numbers.items ++ numbers_in (drop l.span-index l.spans) ≡ numbers_in l.spans
