use Rattle.std.proofs.Common.{◌≡◌, length}
use Rattle.util_digraph.proofs.Search.{Searching, work}
use Rattle.util_digraph.proofs.graph.Graph.reached.Given as goal

abbrev pub invariant-loop-start : goal.invariant-loop-start
invariant-loop-start l = record {
  searching : Searching l.self.arrows.items l.starts (length l.self.ends.items) l.start-index l.marks.items l.ends.items l.pending.items;
  ends_are : l.ends.items ≡ l.self.ends.items;
}

abbrev pub invariant-loop-pending : goal.invariant-loop-pending
invariant-loop-pending l = Searching l.self.arrows.items l.starts (length l.self.ends.items)
    (length l.starts) l.marks.items l.ends.items l.pending.items

abbrev pub decreases-loop-pending : goal.decreases-loop-pending
decreases-loop-pending l = work l.marks.items l.ends.items l.pending.items
