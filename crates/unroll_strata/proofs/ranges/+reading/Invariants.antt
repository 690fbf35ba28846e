use Rattle.std.proofs.Common.{◌≡◌, drop}
use Rattle.statement.specs.Tree.{trees_of}
use Rattle.kif.specs.View.{tree_of, trees_in}
use Rattle.rules_profile.proofs.Facts.{tree_size, trees_size}
use Rattle.unroll_strata.specs.Ranges.{some_has_reading, each_has_reading}
use Rattle.unroll_strata.proofs.ranges.+reading.Given as goal

abbrev pub decreases-is_readable : goal.decreases-is_readable
decreases-is_readable g l = tree_size (tree_of l.e.now)

abbrev pub decreases-is_one_readable : goal.decreases-is_one_readable
decreases-is_one_readable g l = trees_size (trees_in l.parts.now)

abbrev pub decreases-are_all_readable : goal.decreases-are_all_readable
decreases-are_all_readable g l = trees_size (trees_in l.parts.now)

abbrev pub invariant-is_one_readable-loop-part : goal.invariant-is_one_readable-loop-part
invariant-is_one_readable-loop-part g l =
    some_has_reading (trees_of (trees_in l.parts)) ≡ some_has_reading (trees_of (trees_in (drop l.part-index l.parts)))

abbrev pub invariant-are_all_readable-loop-part : goal.invariant-are_all_readable-loop-part
invariant-are_all_readable-loop-part g l =
    each_has_reading (trees_of (trees_in l.parts)) ≡ each_has_reading (trees_of (trees_in (drop l.part-index l.parts)))
