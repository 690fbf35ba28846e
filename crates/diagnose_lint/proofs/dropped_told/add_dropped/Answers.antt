use Rattle.kif.specs.View.{trees_in}
use Rattle.diagnose_lint.proofs.TellingLists.{told_none, told_more}
use Rattle.diagnose_lint.proofs.dropped_told.add_dropped.Goals as goal

pub loop-dropped-init : goal.loop-dropped-init
loop-dropped-init g c = told_none c.args.text.now (trees_in c.args.items.now) _ _ _ _ c.new-pointer.ensures.text (c.new-pointer.ensures.pointer _)

pub loop-dropped-preserved : goal.loop-dropped-preserved
loop-dropped-preserved g c =
    told_more c.args.text.now (trees_in c.args.items.now) _ _ _ c.args.found.now c.loop-dropped.dropped-index c.dropped-item.result
    c.loop-dropped.pointer _ _ _ c.loop-dropped-test.true c.dropped-item.is c.loop-dropped.invariant c.in_ok-add_line.ensures.text
    c.in_ok-add_line.ensures.pointer c.in_ok-add_line.ensures.told
