use Rattle.std.proofs.Common.{◌≡◌, ◌++◌, filter, drop}
use Rattle.kif.specs.View.{trees_in}
use Rattle.rules_relations.specs.Asking.{heads_it}
use Rattle.rules_relations.specs.Relations.{relation_in}
use Rattle.unroll_layers.specs.Listing.{trees_at}
use Rattle.unroll_layers.proofs.picking.heading.Given as goal

abbrev pub invariant-loop-item : goal.invariant-loop-item
invariant-loop-item l =
    trees_at l.made.items ++ filter (heads_it (relation_in l.relation)) (trees_in (drop l.item-index l.items))
    ≡ filter (heads_it (relation_in l.relation)) (trees_in l.items)
