use Rattle.std.proofs.Common.{◌≡◌, length}
use Rattle.rules.specs.RuleSetView.{lists_of_set}
use Rattle.ground_terms.specs.Vectors.{items_of}
use Rattle.ground_rows.specs.Sought.{AreSought}
use Rattle.ground_rows.proofs.sought.sought_atoms.Given as goal

-- what is kept of the literals before this one is right
abbrev pub invariant-loop-index : goal.invariant-loop-index
invariant-loop-index l =
    (length l.sought.items ≡ l.index) × AreSought (lists_of_set l.set) l.terms l.alternative.body.items (items_of l.plan.body.items) l.sought.items
