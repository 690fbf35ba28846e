use Rattle.std.proofs.Common.{suc, ◌≡◌, ◌≤◌, ◌+◌, ◌*◌, min, length, drop}
use Rattle.statement.specs.Tree.{trees_of}
use Rattle.kif.specs.View.{tree_of, trees_in}
use Rattle.statement.specs.Items.{readings_in_turn, readings_of_all}
use Rattle.statement.specs.RuleLimits.{most_alternatives}
use Rattle.rules_profile.proofs.Sizes.{tree_size, trees_size}
use Rattle.rules_profile.proofs.limits.+alternatives.Given as goal

abbrev pub decreases-count_readings : goal.decreases-count_readings
decreases-count_readings g l = tree_size (tree_of l.e.now)

abbrev pub decreases-count_readings_in_turn : goal.decreases-count_readings_in_turn
decreases-count_readings_in_turn g l = trees_size (trees_in l.parts.now)

abbrev pub decreases-count_readings_of_all : goal.decreases-count_readings_of_all
decreases-count_readings_of_all g l = trees_size (trees_in l.parts.now)

abbrev pub invariant-count_readings_in_turn-loop-part : goal.invariant-count_readings_in_turn-loop-part
invariant-count_readings_in_turn-loop-part g l =
    (min (suc most_alternatives) (length (readings_in_turn (trees_of (trees_in l.parts)))) ≡ min (suc most_alternatives)
    (l.count + length (readings_in_turn (trees_of (trees_in (drop l.part-index l.parts))))))
    × (l.count ≤ suc most_alternatives)

abbrev pub invariant-count_readings_of_all-loop-part : goal.invariant-count_readings_of_all-loop-part
invariant-count_readings_of_all-loop-part g l =
    (min (suc most_alternatives) (length (readings_of_all (trees_of (trees_in l.parts)))) ≡ min (suc most_alternatives)
    (l.count * length (readings_of_all (trees_of (trees_in (drop l.part-index l.parts))))))
    × (l.count ≤ suc most_alternatives)
