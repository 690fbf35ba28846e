use Rattle.std.proofs.Common.{◌≡◌, ◌++◌, drop}
use Rattle.unroll_strata.specs.Readings.{ways_behind}
use Rattle.unroll_strata.specs.Listing.{trees_at, ways_at}
use Rattle.unroll_strata.proofs.ways.add_behind.Given as goal

abbrev pub invariant-loop-second : goal.invariant-loop-second
invariant-loop-second l =
    ways_at l.made.items ++ ways_behind (trees_at l.first) (ways_at (drop l.second-index l.seconds))
    ≡ ways_at l.fn.made.items ++ ways_behind (trees_at l.first) (ways_at l.seconds)
