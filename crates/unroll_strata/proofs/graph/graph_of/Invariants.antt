use Rattle.std.proofs.Common.{◌≡◌, ◌+◌, ◌++◌, drop, length}
use Rattle.util_digraph.specs.GraphView.{arrows_of, nodes_of}
use Rattle.kif.specs.View.{trees_in}
use Rattle.unroll_strata.specs.Numbering.{items_arrows}
use Rattle.unroll_strata.proofs.graph.graph_of.Given as goal

abbrev pub invariant-loop-item : goal.invariant-loop-item
invariant-loop-item l = record {
  same : arrows_of l.graph ++ items_arrows l.numbers (trees_in (drop l.item-index l.items)) ≡ items_arrows l.numbers (trees_in l.items);
  nodes : nodes_of l.graph ≡ length l.numbers + 1;
}
