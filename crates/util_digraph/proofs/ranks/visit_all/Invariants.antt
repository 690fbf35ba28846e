use Rattle.std.proofs.Common.{◌≡◌, length, []}
use Rattle.util_digraph.specs.Walk.{Walking}
use Rattle.util_digraph.proofs.ranks.visit_all.Given as goal

abbrev pub invariant-loop-root : goal.invariant-loop-root
invariant-loop-root l = record {
  walking : Walking l.graph.arrows.items (length l.graph.ends.items) l.root l.walk.seen.items l.walk.done.items l.walk.ends.items []
      l.walk.order.items;
  idle : l.walk.pending.items ≡ [];
}
