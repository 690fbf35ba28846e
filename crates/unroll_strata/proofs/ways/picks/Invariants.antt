use Rattle.std.proofs.Common.{◌≡◌, ◌++◌, drop}
use Rattle.unroll_strata.specs.Readings.{way_picks}
use Rattle.unroll_strata.specs.Listing.{ways_at}
use Rattle.unroll_strata.proofs.ways.picks.Given as goal

abbrev pub invariant-loop-first : goal.invariant-loop-first
invariant-loop-first l =
    ways_at l.made.items ++ way_picks (ways_at (drop l.first-index l.firsts)) (ways_at l.seconds)
    ≡ way_picks (ways_at l.firsts) (ways_at l.seconds)
