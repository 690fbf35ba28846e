use Rattle.std.proofs.Common.{◌≡◌, ◌++◌, drop}
use Rattle.kif.specs.View.{trees_in}
use Rattle.unroll.specs.Played.{unranged}
use Rattle.unroll.proofs.ranges.add_unranged.Given as goal

abbrev pub invariant-loop-item : goal.invariant-loop-item
invariant-loop-item l =
    trees_in l.made.items ++ unranged (trees_in (drop l.item-index l.items)) ≡ trees_in l.initial.made.items ++ unranged (trees_in l.items)
