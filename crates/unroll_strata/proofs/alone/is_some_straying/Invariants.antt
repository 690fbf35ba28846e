use Rattle.std.proofs.Common.{◌≡◌, drop}
use Rattle.kif.specs.View.{trees_in}
use Rattle.rules_relations.specs.Asking.{some_item}
use Rattle.unroll_strata.specs.Alone.{strays}
use Rattle.unroll_strata.proofs.alone.is_some_straying.Given as goal

abbrev pub invariant-loop-item : goal.invariant-loop-item
invariant-loop-item l =
    some_item (strays l.heads l.may_ask) (trees_in l.items) ≡ some_item (strays l.heads l.may_ask) (trees_in (drop l.item-index l.items))
