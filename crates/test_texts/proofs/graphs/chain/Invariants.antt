use Rattle.std.proofs.Common.{◌≡◌}
use Rattle.util_digraph.specs.GraphView.{nodes_of}
use Rattle.test_texts.proofs.graphs.chain.Given as goal

abbrev pub invariant-loop-node : goal.invariant-loop-node
invariant-loop-node l = nodes_of l.graph ≡ l.nodes
