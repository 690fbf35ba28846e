use Rattle.std.proofs.Common.{◌≡◌, map, drop}
use Rattle.std.specs.List.{list_all}
use Rattle.rules_relations.specs.Relations.{relation_in}
use Rattle.kif.specs.View.{trees_in}
use Rattle.meaning.specs.Names.{names_of}
use Rattle.unroll_layers.specs.Layering.{are_layers}
use Rattle.unroll_layers.proofs.layers.are_all_layers.Given as goal

abbrev pub invariant-loop-relation : goal.invariant-loop-relation
invariant-loop-relation l =
    list_all (λ p. are_layers (map relation_in l.own) p l.keeps (names_of l.layers) (trees_in l.found) (trees_in l.written)) (map relation_in l.own)
    ≡ list_all (λ p. are_layers (map relation_in l.own) p l.keeps (names_of l.layers) (trees_in l.found) (trees_in l.written)) (map relation_in (drop l.relation-index l.own))
