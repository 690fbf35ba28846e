use Rattle.std.proofs.Common.{◌≡◌, map, drop}
use Rattle.kif.specs.View.{trees_in}
use Rattle.rules_relations.specs.Asking.{some_item}
use Rattle.rules_relations.specs.Relations.{relation_in}
use Rattle.unroll_layers.specs.Kinds.{is_unclear}
use Rattle.unroll_layers.proofs.kinds.is_some_unclear.Given as goal

abbrev pub invariant-loop-item : goal.invariant-loop-item
invariant-loop-item l =
    some_item (is_unclear (map relation_in l.own) l.keeps) (trees_in l.items)
    ≡ some_item (is_unclear (map relation_in l.own) l.keeps) (trees_in (drop l.item-index l.items))
