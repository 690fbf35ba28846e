use Rattle.std.proofs.Common.{◌≡◌}
use Rattle.util_digraph.specs.GraphView.{nodes_of}
use Rattle.test_texts.proofs.graphs.graph_of.Given as goal

abbrev pub invariant-loop-arrow : goal.invariant-loop-arrow
invariant-loop-arrow l = nodes_of l.graph ≡ l.nodes
