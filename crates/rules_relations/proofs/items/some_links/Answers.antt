use Rattle.std.proofs.Common.{sym, ◌∙◌}
use Rattle.std.specs.Prelude.{◌&&◌, Bool}
use Rattle.statement.specs.Tree.{Tree}
use Rattle.rules_relations.specs.Relations.{relation_in}
use Rattle.rules_relations.specs.Asking.{links_them}
use Rattle.rules_relations.proofs.Looking.{item_holds, item_fails}
use Rattle.rules_relations.proofs.items.some_links.Goals as goal

pub returns-then-links : goal.returns-then-links
returns-then-links g c =
    let test : Tree → Bool = links_them (relation_in c.args.from.now) (relation_in c.args.to.now) in
    sym (c.loop-item.invariant ∙ item_holds test _ _ _ c.loop-item-test.true c.item-item.is (sym c.if-links.ensures))

pub loop-item-preserved : goal.loop-item-preserved
loop-item-preserved g c =
    let test : Tree → Bool = links_them (relation_in c.args.from.now) (relation_in c.args.to.now) in
    c.loop-item.invariant ∙ item_fails test _ _ _ c.loop-item-test.true c.item-item.is (sym c.if-links.ensures)
