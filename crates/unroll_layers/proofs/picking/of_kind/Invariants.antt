use Rattle.std.proofs.Common.{◌≡◌, ◌++◌, map, filter, drop}
use Rattle.kif.specs.View.{trees_in}
use Rattle.rules_relations.specs.Relations.{relation_in}
use Rattle.unroll_layers.specs.Kinds.{is_of_kind}
use Rattle.unroll_layers.specs.Listing.{trees_at}
use Rattle.unroll_layers.proofs.picking.of_kind.Given as goal

abbrev pub invariant-loop-item : goal.invariant-loop-item
invariant-loop-item l =
    trees_at l.made.items ++ filter (is_of_kind (map relation_in l.own) (relation_in l.relation) l.is_inner) (trees_in (drop l.item-index l.items))
    ≡ filter (is_of_kind (map relation_in l.own) (relation_in l.relation) l.is_inner) (trees_in l.items)
