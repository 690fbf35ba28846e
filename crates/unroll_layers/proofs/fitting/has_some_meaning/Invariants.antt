use Rattle.std.proofs.Common.{◌≡◌, map, drop}
use Rattle.std.specs.List.{list_any}
use Rattle.rules_relations.specs.Relations.{relation_in}
use Rattle.unroll_layers.specs.Naming.{has_meaning}
use Rattle.unroll_layers.proofs.fitting.has_some_meaning.Given as goal

abbrev pub invariant-loop-relation : goal.invariant-loop-relation
invariant-loop-relation l =
    list_any has_meaning (map relation_in l.relations) ≡ list_any has_meaning (map relation_in (drop l.relation-index l.relations))
