use Rattle.std.proofs.Common.{sym, arith, length, ◌<◌}
use Rattle.std.proofs.lemmas.Bool.Decides.{nat_tests}
use Rattle.kif.proofs.Ordered.{begun, part_left, part_same, part_decides, next_same, in_step}
use Rattle.kif.proofs.printed_order.+order.Goals as goal

pub order_of_parts-loop-index-init : goal.order_of_parts-loop-index-init
order_of_parts-loop-index-init g t c =
    let x_more : 0 < length c.args.xs.now → 0 < length c.args.ys.now = grind (arith, nat_tests) in
    let y_more : 0 < length c.args.ys.now → 0 < length c.args.xs.now = grind (arith, nat_tests) in
    record {
      x_more = x_more;
      y_more = y_more;
      left = begun c.args.xs.now c.args.ys.now x_more y_more;
    }

pub order_of_parts-returns-in_default : goal.order_of_parts-returns-in_default
order_of_parts-returns-in_default g t c =
    let i = c.loop-index.index in
    let part = part_left c.args.xs.now i c.mark_behind-part_next.result c.index-xs-index.result (omega arith) c.index-xs-index.is
    c.mark_behind-part_next.ensures.more c.mark_behind-part_next.ensures.last in
    let other = part_left c.args.ys.now i c.mark_behind-other_next.result c.index-ys-index.result (omega arith) c.index-ys-index.is
    c.mark_behind-other_next.ensures.more c.mark_behind-other_next.ensures.last in
    part_decides _ _ _ _ _ _ _ _ _ _ _ _ _ c.loop-index.invariant.left part other c.order_of_trees.ensures c.in_default.not-Equal

pub order_of_parts-loop-index-preserved : goal.order_of_parts-loop-index-preserved
order_of_parts-loop-index-preserved g t c =
    let i = c.loop-index.index in
    let part = part_left c.args.xs.now i c.mark_behind-part_next.result c.index-xs-index.result (omega arith) c.index-xs-index.is
    c.mark_behind-part_next.ensures.more c.mark_behind-part_next.ensures.last in
    let other = part_left c.args.ys.now i c.mark_behind-other_next.result c.index-ys-index.result (omega arith) c.index-ys-index.is
    c.mark_behind-other_next.ensures.more c.mark_behind-other_next.ensures.last in
    let next = next_same _ _ _ _ _ c.order_of_trees.ensures c.in-Equal.is in
    record {
      x_more = in_step _ _ _ _ _ c.mark_behind-part_next.ensures.more c.mark_behind-other_next.ensures.last next;
      y_more = in_step _ _ _ _ _ c.mark_behind-other_next.ensures.more c.mark_behind-part_next.ensures.last (sym next);
      left = part_same _ _ _ _ _ _ _ _ _ _ _ c.loop-index.invariant.left part other c.order_of_trees.ensures c.in-Equal.is;
    }
