use Rattle.std.proofs.Common.{◌≡◌, ◌≤◌, ◌+◌, ◌*◌, min, length, drop}
use Rattle.statement.specs.Tree.{trees_of}
use Rattle.kif.specs.View.{tree_of, trees_in}
use Rattle.statement.specs.Items.{readings_in_turn, readings_of_all}
use Rattle.rules_profile.proofs.Facts.{tree_size, trees_size}
use Rattle.diagnose_explain.specs.Counting.{most_counted}
use Rattle.diagnose_explain.proofs.counts.+alternatives.Given as goal

abbrev pub decreases-count_readings : goal.decreases-count_readings
decreases-count_readings g l = tree_size (tree_of l.e.now)

abbrev pub decreases-count_in_turn : goal.decreases-count_in_turn
decreases-count_in_turn g l = trees_size (trees_in l.parts.now)

abbrev pub decreases-count_of_all : goal.decreases-count_of_all
decreases-count_of_all g l = trees_size (trees_in l.parts.now)

abbrev pub invariant-count_in_turn-loop-part : goal.invariant-count_in_turn-loop-part
invariant-count_in_turn-loop-part g l =
    (min most_counted (length (readings_in_turn (trees_of (trees_in l.parts)))) ≡ min most_counted
    (l.count + length (readings_in_turn (trees_of (trees_in (drop l.part-index l.parts))))))
    × (l.count ≤ most_counted)

abbrev pub invariant-count_of_all-loop-part : goal.invariant-count_of_all-loop-part
invariant-count_of_all-loop-part g l =
    (min most_counted (length (readings_of_all (trees_of (trees_in l.parts)))) ≡ min most_counted
    (l.count * length (readings_of_all (trees_of (trees_in (drop l.part-index l.parts))))))
    × (l.count ≤ most_counted)
