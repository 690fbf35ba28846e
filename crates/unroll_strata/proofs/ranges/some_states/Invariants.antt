use Rattle.std.proofs.Common.{◌≡◌, drop}
use Rattle.kif.specs.View.{trees_in}
use Rattle.rules_relations.specs.Relations.{relation_in}
use Rattle.rules_relations.specs.Asking.{some_item}
use Rattle.unroll_strata.specs.Ranges.{states_it}
use Rattle.unroll_strata.proofs.ranges.some_states.Given as goal

abbrev pub invariant-loop-item : goal.invariant-loop-item
invariant-loop-item g l =
    some_item (states_it (relation_in l.relation)) (trees_in l.items)
    ≡ some_item (states_it (relation_in l.relation)) (trees_in (drop l.item-index l.items))
