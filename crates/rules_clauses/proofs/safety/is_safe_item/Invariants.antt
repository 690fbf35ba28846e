use Rattle.std.proofs.Common.{drop}
use Rattle.rules_clauses.specs.Spread.{lists_of}
use Rattle.rules_clauses.specs.StoreView.{data_of}
use Rattle.rules_clauses.proofs.MarkLemmas.{TestingItem}
use Rattle.rules_clauses.proofs.safety.is_safe_item.Given as goal

abbrev pub invariant-loop-body : goal.invariant-loop-body
invariant-loop-body l =
    TestingItem (data_of l.store) l.item (lists_of l.item.bodies.items) (lists_of (drop l.body-index l.body-items))
