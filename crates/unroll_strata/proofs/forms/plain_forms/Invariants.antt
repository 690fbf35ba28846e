use Rattle.std.proofs.Common.{◌≡◌, ◌++◌, drop, map}
use Rattle.kif.specs.View.{trees_in}
use Rattle.unroll_strata.specs.Plain.{plain_item}
use Rattle.unroll_strata.proofs.forms.plain_forms.Given as goal

abbrev pub invariant-loop-item : goal.invariant-loop-item
invariant-loop-item l = trees_in l.made.items ++ map plain_item (trees_in (drop l.item-index l.items)) ≡ map plain_item (trees_in l.items)
