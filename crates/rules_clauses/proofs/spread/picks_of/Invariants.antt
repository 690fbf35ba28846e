use Rattle.std.proofs.Common.{◌≡◌, ◌++◌, drop}
use Rattle.rules_clauses.specs.Spread.{lists_of, number_picks}
use Rattle.rules_clauses.proofs.spread.picks_of.Given as goal

abbrev pub invariant-loop-list : goal.invariant-loop-list
invariant-loop-list l =
    lists_of l.out.items ++ number_picks (lists_of (drop l.list-index l.first)) (lists_of l.second)
    ≡ number_picks (lists_of l.first) (lists_of l.second)
