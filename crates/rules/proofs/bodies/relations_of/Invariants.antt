use Rattle.std.proofs.Common.{drop}
use Rattle.rules_clauses.specs.StoreView.{data_of}
use Rattle.rules_clauses.specs.Spread.{lists_of}
use Rattle.rules.proofs.BodyLemmas.{NamingAll}
use Rattle.rules.proofs.bodies.relations_of.Given as goal

abbrev pub invariant-loop-body : goal.invariant-loop-body
invariant-loop-body l = NamingAll l.item.variables.from (data_of l.store) l.out.items (lists_of l.item.bodies.items)
    (lists_of (drop l.body-index l.body-items))
