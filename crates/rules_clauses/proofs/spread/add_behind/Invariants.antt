use Rattle.std.proofs.Common.{◌≡◌, ◌++◌, drop}
use Rattle.rules_clauses.specs.Spread.{lists_of, numbers_in, numbers_behind_each}
use Rattle.rules_clauses.proofs.spread.add_behind.Given as goal

abbrev pub invariant-loop-list : goal.invariant-loop-list
invariant-loop-list l =
    lists_of l.out.items ++ numbers_behind_each (numbers_in l.first) (lists_of (drop l.list-index l.second)) ≡ lists_of l.fn.out.items
    ++ numbers_behind_each (numbers_in l.first) (lists_of l.second)
