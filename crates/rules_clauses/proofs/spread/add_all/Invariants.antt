use Rattle.std.proofs.Common.{◌≡◌, ◌++◌}
use Rattle.rules_clauses.specs.Spread.{lists_of}
use Rattle.rules_clauses.proofs.spread.add_all.Given as goal

abbrev pub invariant-loop-list : goal.invariant-loop-list
invariant-loop-list l = lists_of l.all.items ≡ lists_of l.fn.all.items ++ lists_of l.yielded
