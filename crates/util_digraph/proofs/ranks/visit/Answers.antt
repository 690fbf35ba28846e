use Rattle.std.proofs.Common.{◌∙◌, ◌<◌, length, rules}
use Rattle.util_digraph.proofs.WalkLemmas.{newest_node, newest_arrow, passed_at, passed_work, cyclic_at, seen_at, seen_work, finished_pop}
use Rattle.util_digraph.proofs.ranks.visit.Goals as goal

pub loop-walk-preserved-then-end-eq0 : goal.loop-walk-preserved-then-end-eq0
loop-walk-preserved-then-end-eq0 c =
    let some : 0 < length c.loop-walk.walk.pending.items = search rules in
    let node = newest_node _ _ _ _ _ _ _ _ _ _ _ c.loop-walk.invariant some (c.len.ensures
    ∙ c.loop-walk.walk.pending.ok.0) c.index-node.ensures c.index-end.ensures in
    finished_pop _ _ _ _ _ _ _ _ _ _ _ c.pop.result _ _ c.args.graph.now.linked c.loop-walk.invariant node c.if-end-eq0.true c.pop.ensures.items
    (search rules) c.in_ok-push.ensures.items

pub loop-walk-preserved-then-index : goal.loop-walk-preserved-then-index
loop-walk-preserved-then-index c =
    let some : 0 < length c.loop-walk.walk.pending.items = search rules in
    let node = newest_node _ _ _ _ _ _ _ _ _ _ _ c.loop-walk.invariant some (c.len.ensures
    ∙ c.loop-walk.walk.pending.ok.0) c.index-node.ensures c.index-end.ensures in
    let arrow = newest_arrow _ _ _ _ _ _ _ _ _ _ _ _ c.args.graph.now.linked c.loop-walk.invariant node c.if-end-eq0.false c.index.ensures in
    passed_at _ _ _ _ _ _ _ _ _ _ _ _ _ _ c.args.graph.now.linked c.loop-walk.invariant node arrow c.index-in-loop-walk.ensures c.if-index.true
    c.index-then-index.ensures

pub loop-walk-smaller-then-index : goal.loop-walk-smaller-then-index
loop-walk-smaller-then-index c =
    let some : 0 < length c.loop-walk.walk.pending.items = search rules in
    let node = newest_node _ _ _ _ _ _ _ _ _ _ _ c.loop-walk.invariant some (c.len.ensures
    ∙ c.loop-walk.walk.pending.ok.0) c.index-node.ensures c.index-end.ensures in
    let arrow = newest_arrow _ _ _ _ _ _ _ _ _ _ _ _ c.args.graph.now.linked c.loop-walk.invariant node c.if-end-eq0.false c.index.ensures in
    passed_work _ _ _ _ _ _ _ _ _ _ _ _ _ c.args.graph.now.linked c.loop-walk.invariant node arrow c.index-then-index.ensures

pub returns-then-index-2 : goal.returns-then-index-2
returns-then-index-2 c =
    let some : 0 < length c.loop-walk.walk.pending.items = search rules in
    let node = newest_node _ _ _ _ _ _ _ _ _ _ _ c.loop-walk.invariant some (c.len.ensures
    ∙ c.loop-walk.walk.pending.ok.0) c.index-node.ensures c.index-end.ensures in
    let arrow = newest_arrow _ _ _ _ _ _ _ _ _ _ _ _ c.args.graph.now.linked c.loop-walk.invariant node c.if-end-eq0.false c.index.ensures in
    cyclic_at _ _ _ _ _ _ _ _ _ _ _ _ _ c.loop-walk.invariant node arrow c.index-in-loop-walk.ensures c.if-index.false c.index-else-index.ensures
    c.if-index-2.true

pub loop-walk-preserved : goal.loop-walk-preserved
loop-walk-preserved c =
    let some : 0 < length c.loop-walk.walk.pending.items = search rules in
    let node = newest_node _ _ _ _ _ _ _ _ _ _ _ c.loop-walk.invariant some (c.len.ensures
    ∙ c.loop-walk.walk.pending.ok.0) c.index-node.ensures c.index-end.ensures in
    let arrow = newest_arrow _ _ _ _ _ _ _ _ _ _ _ _ c.args.graph.now.linked c.loop-walk.invariant node c.if-end-eq0.false c.index.ensures in
    seen_at _ _ _ _ _ _ _ _ _ _ _ c.loop-walk.invariant node arrow _ c.in_ok-push-2.ensures.items

pub loop-walk-smaller : goal.loop-walk-smaller
loop-walk-smaller c =
    let some : 0 < length c.loop-walk.walk.pending.items = search rules in
    let node = newest_node _ _ _ _ _ _ _ _ _ _ _ c.loop-walk.invariant some (c.len.ensures
    ∙ c.loop-walk.walk.pending.ok.0) c.index-node.ensures c.index-end.ensures in
    let arrow = newest_arrow _ _ _ _ _ _ _ _ _ _ _ _ c.args.graph.now.linked c.loop-walk.invariant node c.if-end-eq0.false c.index.ensures in
    seen_work _ _ _ _ _ _ _ _ _ _ _ _ c.loop-walk.invariant arrow c.index-else-index.ensures c.if-index-2.false _ c.in_ok-push-2.ensures.items
