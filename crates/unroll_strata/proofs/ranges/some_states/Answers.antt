use Rattle.std.proofs.Common.{sym, ◌∙◌}
use Rattle.std.specs.Prelude.{Bool}
use Rattle.statement.specs.Tree.{Tree}
use Rattle.rules_relations.specs.Relations.{relation_in}
use Rattle.rules_relations.proofs.Facts.{item_holds, item_fails}
use Rattle.unroll_strata.specs.Ranges.{states_it}
use Rattle.unroll_strata.proofs.ranges.some_states.Goals as goal

pub returns-then-states : goal.returns-then-states
returns-then-states g c =
    let test : Tree → Bool = states_it (relation_in c.args.relation.now) in
    sym (c.loop-item.invariant ∙ item_holds test _ _ _ c.loop-item-test.true c.item-item.is (sym c.if-states.ensures))

pub loop-item-preserved : goal.loop-item-preserved
loop-item-preserved g c =
    let test : Tree → Bool = states_it (relation_in c.args.relation.now) in
    c.loop-item.invariant ∙ item_fails test _ _ _ c.loop-item-test.true c.item-item.is (sym c.if-states.ensures)
