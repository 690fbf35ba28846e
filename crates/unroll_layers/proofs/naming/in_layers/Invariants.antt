use Rattle.std.proofs.Common.{◌≡◌, ◌++◌, map, drop}
use Rattle.rules_relations.specs.Relations.{relation_in}
use Rattle.meaning.specs.Names.{names_of}
use Rattle.unroll_layers.specs.Naming.{in_layers}
use Rattle.unroll_layers.proofs.naming.in_layers.Given as goal

abbrev pub invariant-loop-names : goal.invariant-loop-names
invariant-loop-names l =
    map relation_in l.made.items ++ in_layers (map relation_in l.own) (names_of (drop l.names-index l.layers))
    ≡ in_layers (map relation_in l.own) (names_of l.layers)
