use Rattle.std.proofs.Common.{◌≡◌, ◌++◌, drop}
use Rattle.rules.specs.RuleSetView.{lists_of_set}
use Rattle.ground_terms.specs.Vectors.{items_of}
use Rattle.ground_matching.specs.Placed.{placed_body}
use Rattle.ground_matching.proofs.placed.placed_body.Given as goal

abbrev pub invariant-loop-number : goal.invariant-loop-number
invariant-loop-number l =
    items_of l.all.items ++ placed_body (lists_of_set l.set) l.from l.places (drop l.number-index l.numbers) ≡ placed_body (lists_of_set l.set) l.from
    l.places l.numbers
