use Rattle.std.proofs.Common.{length}
use Rattle.util_digraph.proofs.RankLemmas.{Ranking}
use Rattle.util_digraph.proofs.ranks.ranks_of.Given as goal

abbrev pub invariant-loop-node : goal.invariant-loop-node
invariant-loop-node l = Ranking l.graph.arrows.items (length l.graph.ends.items) l.rests l.order l.node-index l.ranks.items
