use Rattle.std.proofs.Common.{sym, ◌∙◌}
use Rattle.std.specs.Prelude.{Bool}
use Rattle.statement.specs.Tree.{Tree}
use Rattle.unroll_strata.specs.Adding.{heads_one_of}
use Rattle.rules_relations.proofs.Facts.{item_holds, item_fails}
use Rattle.unroll_strata.proofs.adding.is_any_spoken_of.Goals as goal

pub returns-then-is_spoken_of : goal.returns-then-is_spoken_of
returns-then-is_spoken_of g c =
    let test : Tree → Bool = heads_one_of c.args.own.now c.args.stated.now c.args.asked.now in
    sym (c.loop-item.invariant ∙ item_holds test _ _ _ c.loop-item-test.true c.item-item.is (sym c.if-is_spoken_of.ensures))

pub loop-item-preserved : goal.loop-item-preserved
loop-item-preserved g c =
    let test : Tree → Bool = heads_one_of c.args.own.now c.args.stated.now c.args.asked.now in
    c.loop-item.invariant ∙ item_fails test _ _ _ c.loop-item-test.true c.item-item.is (sym c.if-is_spoken_of.ensures)
