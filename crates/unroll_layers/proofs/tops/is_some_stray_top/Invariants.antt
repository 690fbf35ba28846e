use Rattle.std.proofs.Common.{◌≡◌, map, drop}
use Rattle.kif.specs.View.{trees_in}
use Rattle.rules_relations.specs.Asking.{some_item}
use Rattle.rules_relations.specs.Relations.{relation_in}
use Rattle.meaning.specs.Names.{names_of}
use Rattle.unroll_layers.specs.Layering.{is_stray_top}
use Rattle.unroll_layers.proofs.tops.is_some_stray_top.Given as goal

abbrev pub invariant-loop-item : goal.invariant-loop-item
invariant-loop-item l =
    some_item (is_stray_top (map relation_in l.own) (names_of l.layers)) (trees_in l.items)
    ≡ some_item (is_stray_top (map relation_in l.own) (names_of l.layers)) (trees_in (drop l.item-index l.items))
