use Rattle.std.proofs.Common.{◌+◌, length}
use Rattle.util_digraph.specs.Grouping.{IsWalk, work_of}
use Rattle.util_digraph.proofs.components.visit.Given as goal

abbrev pub invariant-loop-walk : goal.invariant-loop-walk
invariant-loop-walk l = IsWalk l.graph.arrows.items (length l.graph.ends.items) (l.root + 1) l.walk

abbrev pub decreases-loop-walk : goal.decreases-loop-walk
decreases-loop-walk l = work_of l.walk
