use Rattle.std.proofs.Common.{◌≡◌, ◌++◌, map, drop}
use Rattle.rules_relations.specs.Relations.{relation_in}
use Rattle.unroll_layers.specs.Naming.{in_layer, words_in}
use Rattle.unroll_layers.proofs.naming.add_layer.Given as goal

abbrev pub invariant-loop-relation : goal.invariant-loop-relation
invariant-loop-relation l =
    map relation_in l.made.items ++ map (in_layer (map relation_in l.own) (words_in l.names)) (map relation_in (drop l.relation-index l.own))
    ≡ map relation_in l.initial.made.items ++ map (in_layer (map relation_in l.own) (words_in l.names)) (map relation_in l.own)
