use Rattle.std.proofs.Common.{◌≡◌, ◌++◌, drop}
use Rattle.statement.specs.Tree.{trees_of}
use Rattle.kif.specs.View.{tree_of, trees_in}
use Rattle.rules_profile.proofs.Facts.{tree_size, trees_size}
use Rattle.unroll_strata.specs.Readings.{way_picks, ways_in_turn, ways_of_all}
use Rattle.unroll_strata.specs.Listing.{ways_at}
use Rattle.unroll_strata.proofs.ways.+parting.Given as goal

abbrev pub decreases-ways_of : goal.decreases-ways_of
decreases-ways_of l = tree_size (tree_of l.e.now)

abbrev pub decreases-ways_in_turn : goal.decreases-ways_in_turn
decreases-ways_in_turn l = trees_size (trees_in l.parts.now)

abbrev pub decreases-ways_of_all : goal.decreases-ways_of_all
decreases-ways_of_all l = trees_size (trees_in l.parts.now)

abbrev pub invariant-ways_in_turn-loop-part : goal.invariant-ways_in_turn-loop-part
invariant-ways_in_turn-loop-part l =
    ways_at l.all.items ++ ways_in_turn (trees_of (trees_in (drop l.part-index l.parts))) ≡ ways_in_turn (trees_of (trees_in l.parts))

abbrev pub invariant-ways_of_all-loop-part : goal.invariant-ways_of_all-loop-part
invariant-ways_of_all-loop-part l =
    way_picks (ways_at l.all.items) (ways_of_all (trees_of (trees_in (drop l.part-index l.parts)))) ≡ ways_of_all (trees_of (trees_in l.parts))
