use Rattle.std.proofs.Common.{◌≡◌, map, drop}
use Rattle.rules_relations.specs.Relations.{relation_in}
use Rattle.unroll_layers.specs.Naming.{words_in}
use Rattle.unroll_layers.specs.Layering.{pairwise, is_item_of}
use Rattle.unroll_layers.specs.Listing.{trees_at}
use Rattle.unroll_layers.proofs.items.are_items_of.Given as goal

abbrev pub invariant-loop-place : goal.invariant-loop-place
invariant-loop-place l =
    pairwise (is_item_of (map relation_in l.own) (words_in l.names) (words_in l.before)) (trees_at l.firsts) (trees_at l.seconds)
    ≡ pairwise (is_item_of (map relation_in l.own) (words_in l.names) (words_in l.before)) (trees_at (drop l.place l.firsts)) (trees_at (drop l.place l.seconds))
