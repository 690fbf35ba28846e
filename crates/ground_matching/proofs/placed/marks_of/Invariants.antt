use Rattle.std.proofs.Common.{◌≡◌, ◌++◌, map, drop}
use Rattle.rules.specs.RuleSetView.{lists_of_set, rules_in}
use Rattle.ground_matching.specs.Plans.{mark_of}
use Rattle.ground_matching.proofs.placed.marks_of.Given as goal

abbrev pub invariant-loop-number : goal.invariant-loop-number
invariant-loop-number l =
    l.marks.items ++ map (mark_of (rules_in l.set) (lists_of_set l.set)) (drop l.number-index l.numbers) ≡ map
    (mark_of (rules_in l.set) (lists_of_set l.set)) l.numbers
