use Rattle.std.proofs.Common.{arith}
use Rattle.util_digraph.proofs.GroupLemmas.{rooted_walk, read_zero}
use Rattle.util_digraph.proofs.components.visit.Goals as goal

pub loop-walk-init : goal.loop-walk-init
loop-walk-init c =
    let e = c.in_ok-open_node.ensures in
    rooted_walk _ _ _ c.args.walk.now c.open_node.new.self c.requires.root c.requires.walk c.requires.idle
    (read_zero c.args.walk.now.places.items c.args.root _ (omega (arith, c.requires.root, c.requires.walk.places_are)) c.index.ensures
    c.if-index-gt0.false)
    e.places e.listed e.starts e.pending e.ends e.numbers e.count

pub loop-walk-preserved : goal.loop-walk-preserved
loop-walk-preserved c = c.in_ok-step.ensures.walk _ c.loop-walk.invariant
