use Rattle.std.proofs.Common.{◌≡◌, drop}
use Rattle.std.specs.Prelude.{◌||◌}
use Rattle.statement.specs.Clause.{Relation}
use Rattle.statement.specs.Dependence.{is_among}
use Rattle.kif.specs.View.{trees_in}
use Rattle.rules_relations.specs.Asking.{heads_it, some_item}
use Rattle.rules_relations.proofs.sets.stated_in.Given as goal

abbrev pub invariant-loop-item : goal.invariant-loop-item
invariant-loop-item g l =
    (p : Relation) → (is_among p l.set || some_item (heads_it p) (trees_in (drop l.item-index l.items))) ≡ some_item (heads_it p) (trees_in l.items)
