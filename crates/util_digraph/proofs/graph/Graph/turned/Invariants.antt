use Rattle.std.proofs.Common.{◌≡◌, take, map, vec_len}
use Rattle.util_digraph.specs.Graph.{turned_arrow}
use Rattle.util_digraph.proofs.graph.Graph.turned.Given as goal

abbrev pub invariant-loop-arrow : goal.invariant-loop-arrow
invariant-loop-arrow l = record {
  nodes : vec_len l.graph.ends ≡ vec_len l.self.ends;
  arrows : l.graph.arrows.items ≡ map turned_arrow (take l.arrow-index l.self.arrows.items);
}
