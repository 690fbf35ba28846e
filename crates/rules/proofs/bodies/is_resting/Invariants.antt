use Rattle.std.proofs.Common.{◌≡◌, drop}
use Rattle.rules_clauses.specs.Spread.{lists_of}
use Rattle.rules.specs.Bodies.{has_literal}
use Rattle.rules.proofs.bodies.is_resting.Given as goal

abbrev pub invariant-loop-body : goal.invariant-loop-body
invariant-loop-body l = has_literal (lists_of (drop l.body-index l.body-items)) ≡ has_literal (lists_of l.item.bodies.items)
