use Rattle.std.proofs.Common.{◌≡◌, take}
use Rattle.rules.specs.RuleSetView.{lists_of_set, rules_in}
use Rattle.ground_rows.specs.Sharing.{failing}
use Rattle.ground_listing.proofs.sharing.failing_literals.Given as goal

-- those of the literals before this one
abbrev pub invariant-loop-number : goal.invariant-loop-number
invariant-loop-number l = l.failing.items ≡ failing (rules_in l.set) (lists_of_set l.set) (take l.number-index l.numbers)
