use Rattle.std.proofs.Common.{◌≡◌, drop}
use Rattle.kif.specs.View.{trees_in}
use Rattle.rules_relations.specs.Asking.{some_item}
use Rattle.unroll_strata.specs.Adding.{heads_one_of}
use Rattle.unroll_strata.proofs.adding.is_any_spoken_of.Given as goal

abbrev pub invariant-loop-item : goal.invariant-loop-item
invariant-loop-item g l =
    some_item (heads_one_of l.own l.stated l.asked) (trees_in l.items) ≡ some_item (heads_one_of l.own l.stated l.asked) (trees_in (drop l.item-index l.items))
