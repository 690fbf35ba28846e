use Rattle.std.proofs.Common.{◌≡◌, map, drop}
use Rattle.rules_relations.specs.Relations.{relation_in}
use Rattle.kif.specs.View.{trees_in}
use Rattle.meaning.specs.Names.{names_of}
use Rattle.unroll_layers.specs.Naming.{words_in}
use Rattle.unroll_layers.specs.Layering.{are_next}
use Rattle.unroll_layers.specs.Listing.{trees_at}
use Rattle.unroll_layers.proofs.layers.are_next.Given as goal

abbrev pub invariant-loop-names : goal.invariant-loop-names
invariant-loop-names l =
    are_next (map relation_in l.own) (relation_in l.relation) l.keeps (words_in l.first) (names_of l.layers) (trees_at l.found) (trees_in l.written)
    ≡ are_next (map relation_in l.own) (relation_in l.relation) l.keeps (words_in l.before) (names_of (drop l.names-index l.layers)) (trees_at l.found) (trees_in l.written)
