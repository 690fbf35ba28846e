use Rattle.std.proofs.Common.{◌≡◌, map, drop}
use Rattle.kif.specs.View.{trees_in}
use Rattle.rules_relations.specs.Relations.{relation_in}
use Rattle.unroll_layers.specs.Naming.{words_in}
use Rattle.unroll_layers.specs.Layering.{pairwise, is_literal_of}
use Rattle.unroll_layers.proofs.literals.are_literals_of.Given as goal

abbrev pub invariant-loop-place : goal.invariant-loop-place
invariant-loop-place l =
    pairwise (is_literal_of (map relation_in l.own) (words_in l.names)) (trees_in l.firsts) (trees_in l.seconds)
    ≡ pairwise (is_literal_of (map relation_in l.own) (words_in l.names)) (trees_in (drop l.place l.firsts)) (trees_in (drop l.place l.seconds))
