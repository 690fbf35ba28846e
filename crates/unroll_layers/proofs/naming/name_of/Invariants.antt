use Rattle.std.proofs.Common.{◌≡◌, map, drop}
use Rattle.rules_relations.specs.Relations.{relation_in}
use Rattle.meaning.specs.Names.{name_in}
use Rattle.unroll_layers.specs.Naming.{words_in}
use Rattle.unroll_layers.proofs.naming.name_of.Given as goal

abbrev pub invariant-loop-place : goal.invariant-loop-place
invariant-loop-place l =
    name_in (map relation_in l.own) (words_in l.names) (relation_in l.relation)
    ≡ name_in (map relation_in (drop l.place l.own)) (words_in (drop l.place l.names)) (relation_in l.relation)
