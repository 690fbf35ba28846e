use Rattle.std.proofs.Common.{◌≡◌, ◌++◌, drop, filter}
use Rattle.kif.specs.View.{trees_in}
use Rattle.unroll_strata.specs.Steps.{heads_one}
use Rattle.unroll_strata.proofs.making.add_all_written.Given as goal

abbrev pub invariant-loop-item : goal.invariant-loop-item
invariant-loop-item l =
    trees_in l.made.items ++ filter (heads_one l.below) (trees_in (drop l.item-index l.items))
    ≡ trees_in l.initial.made.items ++ filter (heads_one l.below) (trees_in l.items)
