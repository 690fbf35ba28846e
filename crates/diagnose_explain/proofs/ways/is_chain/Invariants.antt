use Rattle.std.proofs.Common.{◌≡◌, drop}
use Rattle.std.specs.Prelude.{map}
use Rattle.kif.specs.View.{trees_in}
use Rattle.rules_relations.specs.Relations.{relation_in}
use Rattle.diagnose_explain.specs.Ways.{is_chain}
use Rattle.diagnose_explain.proofs.ways.is_chain.Given as goal

abbrev pub invariant-loop-step : goal.invariant-loop-step
invariant-loop-step g l =
    is_chain (trees_in l.items) (relation_in l.from) (map relation_in l.steps)
    ≡ is_chain (trees_in l.items) (relation_in l.here) (map relation_in (drop l.step-index l.steps))
