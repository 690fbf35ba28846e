use Rattle.std.proofs.Common.{◌≡◌, map, drop}
use Rattle.std.specs.List.{list_any}
use Rattle.rules_relations.specs.Relations.{relation_in}
use Rattle.unroll_strata.specs.Alone.{is_stray}
use Rattle.unroll_strata.proofs.alone.is_some_stray.Given as goal

abbrev pub invariant-loop-relation : goal.invariant-loop-relation
invariant-loop-relation l =
    list_any (is_stray l.may_ask) (map relation_in l.relations)
    ≡ list_any (is_stray l.may_ask) (map relation_in (drop l.relation-index l.relations))
