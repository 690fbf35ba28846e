use Rattle.std.proofs.Common.{length, drop}
use Rattle.rules.specs.RuleSetView.{lists_of_set}
use Rattle.ground_terms.specs.Vectors.{items_of}
use Rattle.ground_terms.specs.Dropping.{AreListsBelow}
use Rattle.ground_terms.specs.Keys.{trees}
use Rattle.ground_rows.proofs.Facts.{AreNamedUpTo}
use Rattle.ground_rows.proofs.context_step.name_lists.Given as goal

abbrev pub invariant-loop-list : goal.invariant-loop-list
invariant-loop-list l =
    AreListsBelow (length l.fn.arena.keys) (items_of (drop l.list-index l.lists))
    × AreNamedUpTo (trees (lists_of_set l.set).words l.fn.arena.keys) (items_of l.fn.lists) (items_of (drop l.list-index l.lists))
    (items_of l.named.items)
