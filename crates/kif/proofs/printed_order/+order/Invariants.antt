use Rattle.std.proofs.Common.{length, drop, ◌<◌}
use Rattle.statement.specs.Tree.{list, trees_of}
use Rattle.kif.specs.View.{trees_in}
use Rattle.kif.specs.Marks.{marks}
use Rattle.kif.proofs.Ordered.{Left, left_marks}
use Rattle.kif.proofs.printed_order.+order.Given as goal

abbrev pub invariant-order_of_parts-loop-index : goal.invariant-order_of_parts-loop-index
invariant-order_of_parts-loop-index g l = record {
  x_more : l.index < length l.xs → l.index < length l.ys;
  y_more : l.index < length l.ys → l.index < length l.xs;
  left : Left (marks (list (trees_of (trees_in l.xs)))) (marks (list (trees_of (trees_in l.ys)))) (left_marks (trees_in (drop l.index l.xs)))
      (left_marks (trees_in (drop l.index l.ys)));
}
