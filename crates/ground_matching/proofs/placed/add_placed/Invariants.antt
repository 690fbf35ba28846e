use Rattle.std.proofs.Common.{◌≡◌, ◌++◌, map, drop}
use Rattle.rules.specs.RuleSetView.{lists_of_set}
use Rattle.ground_matching.specs.Placed.{placed_part}
use Rattle.ground_matching.proofs.placed.add_placed.Given as goal

abbrev pub invariant-loop-part : goal.invariant-loop-part
invariant-loop-part l =
    l.placed.items ++ map (placed_part (lists_of_set l.set) l.from l.places) (drop l.part-index l.parts)
    ≡ l.fn.placed.items ++ map (placed_part (lists_of_set l.set) l.from l.places) l.parts
