use Rattle.std.proofs.Common.{◌≡◌, false, map, drop}
use Rattle.statement.specs.Dependence.{is_among}
use Rattle.rules_relations.specs.Relations.{relation_in}
use Rattle.unroll_layers.specs.Naming.{repeats}
use Rattle.unroll_layers.proofs.fitting.has_repeated.Given as goal

abbrev pub invariant-loop-relation : goal.invariant-loop-relation
invariant-loop-relation l =
    repeats (λ p. false) (map relation_in l.relations) ≡ repeats (λ p. is_among p l.known) (map relation_in (drop l.relation-index l.relations))
