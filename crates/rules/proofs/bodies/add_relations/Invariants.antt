use Rattle.std.proofs.Common.{drop}
use Rattle.rules_clauses.specs.StoreView.{data_of}
use Rattle.rules.proofs.BodyLemmas.{Naming}
use Rattle.rules.proofs.bodies.add_relations.Given as goal

abbrev pub invariant-loop-number : goal.invariant-loop-number
invariant-loop-number l = Naming l.from (data_of l.store) l.fn.out.items l.out.items l.body (drop l.number-index l.body)
