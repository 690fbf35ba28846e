use Rattle.std.proofs.Common.{sym, ◌∙◌}
use Rattle.std.specs.Prelude.{◌&&◌, Bool}
use Rattle.statement.specs.Tree.{Tree}
use Rattle.rules_relations.specs.Relations.{relation_in}
use Rattle.rules_relations.specs.Asking.{heads_it, asks_it}
use Rattle.rules_relations.proofs.Looking.{item_holds, item_fails}
use Rattle.rules_relations.proofs.items.is_stated.Goals as goal

pub returns-then-heads : goal.returns-then-heads
returns-then-heads g c =
    let test : Tree → Bool = heads_it (relation_in c.args.relation.now) in
    sym (c.loop-item.invariant ∙ item_holds test _ _ _ c.loop-item-test.true c.item-item.is (sym c.if-heads.ensures))

pub loop-item-preserved : goal.loop-item-preserved
loop-item-preserved g c =
    let test : Tree → Bool = heads_it (relation_in c.args.relation.now) in
    c.loop-item.invariant ∙ item_fails test _ _ _ c.loop-item-test.true c.item-item.is (sym c.if-heads.ensures)
