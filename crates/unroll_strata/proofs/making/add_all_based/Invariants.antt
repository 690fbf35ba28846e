use Rattle.std.proofs.Common.{◌≡◌, ◌++◌, drop, filter, map}
use Rattle.kif.specs.View.{trees_in}
use Rattle.unroll_strata.specs.Steps.{based_item, heads_one}
use Rattle.unroll_strata.proofs.making.add_all_based.Given as goal

abbrev pub invariant-loop-item : goal.invariant-loop-item
invariant-loop-item l =
    trees_in l.made.items ++ map (based_item) (filter (heads_one l.own) (trees_in (drop l.item-index l.items)))
    ≡ trees_in l.initial.made.items ++ map (based_item) (filter (heads_one l.own) (trees_in l.items))
