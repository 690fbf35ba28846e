use Rattle.std.proofs.Common.{◌+◌, length}
use Rattle.util_digraph.specs.Walk.{Walking}
use Rattle.util_digraph.proofs.Search.{work}
use Rattle.util_digraph.proofs.ranks.visit.Given as goal

abbrev pub invariant-loop-walk : goal.invariant-loop-walk
invariant-loop-walk l =
    Walking l.graph.arrows.items (length l.graph.ends.items) (l.root + 1) l.walk.seen.items l.walk.done.items l.walk.ends.items l.walk.pending.items
    l.walk.order.items

abbrev pub decreases-loop-walk : goal.decreases-loop-walk
decreases-loop-walk l = work l.walk.seen.items l.walk.ends.items l.walk.pending.items
