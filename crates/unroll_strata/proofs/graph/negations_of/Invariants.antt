use Rattle.std.proofs.Common.{◌≡◌, ◌++◌, drop, map}
use Rattle.kif.specs.View.{trees_in}
use Rattle.unroll_strata.specs.Numbering.{link_in, negation_of}
use Rattle.unroll_strata.proofs.graph.negations_of.Given as goal

abbrev pub invariant-loop-item : goal.invariant-loop-item
invariant-loop-item l =
    map link_in l.links.items ++ map (negation_of l.numbers) (trees_in (drop l.item-index l.items)) ≡ map (negation_of l.numbers) (trees_in l.items)
