use Rattle.std.proofs.Common.{length}
use Rattle.util_digraph.proofs.GroupLemmas.{Cutting}
use Rattle.util_digraph.proofs.components.drop_behind.Given as goal

abbrev pub invariant-loop-starts : goal.invariant-loop-starts
invariant-loop-starts l = Cutting l.initial.starts.items l.starts.items l.place

abbrev pub decreases-loop-starts : goal.decreases-loop-starts
decreases-loop-starts l = length l.starts.items
