use Rattle.std.proofs.Common.{◌≡◌, map, drop}
use Rattle.statement.specs.Dependence.{is_among}
use Rattle.rules_relations.specs.Relations.{relation_in}
use Rattle.unroll_layers.proofs.kinds.is_among.Given as goal

abbrev pub invariant-loop-other : goal.invariant-loop-other
invariant-loop-other l =
    is_among (relation_in l.relation) (map relation_in l.own) ≡ is_among (relation_in l.relation) (map relation_in (drop l.other-index l.own))
