use Rattle.std.proofs.Common.{◌≡◌, ◌++◌, map, drop}
use Rattle.kif.specs.View.{tree_of, trees_in}
use Rattle.unroll_strata.specs.Readings.{rule_of}
use Rattle.unroll_strata.specs.Listing.{ways_at}
use Rattle.unroll_strata.proofs.read_items.add_rules.Given as goal

abbrev pub invariant-loop-way : goal.invariant-loop-way
invariant-loop-way l =
    trees_in l.made.items ++ map (rule_of (tree_of l.head)) (ways_at (drop l.way-index l.ways))
    ≡ trees_in l.fn.made.items ++ map (rule_of (tree_of l.head)) (ways_at l.ways)
