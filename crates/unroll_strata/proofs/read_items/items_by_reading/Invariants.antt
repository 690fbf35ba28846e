use Rattle.std.proofs.Common.{◌≡◌, ◌++◌, map, drop}
use Rattle.kif.specs.View.{trees_in}
use Rattle.rules_relations.specs.Relations.{relation_in}
use Rattle.unroll_strata.specs.Readings.{items_by_reading}
use Rattle.unroll_strata.proofs.read_items.items_by_reading.Given as goal

abbrev pub invariant-loop-item : goal.invariant-loop-item
invariant-loop-item l =
    trees_in l.made.items ++ items_by_reading (map relation_in l.own) (trees_in (drop l.item-index l.items))
    ≡ items_by_reading (map relation_in l.own) (trees_in l.items)
