use Rattle.std.proofs.Common.{◌≡◌, length}
use Rattle.util_digraph.specs.Grouping.{IsWalk}
use Rattle.util_digraph.proofs.components.components_of.Given as goal

abbrev pub invariant-loop-root : goal.invariant-loop-root
invariant-loop-root l = record {
  walk : IsWalk l.graph.arrows.items (length l.graph.ends.items) l.root l.walk;
  idle : length l.walk.open_nodes.items ≡ 0;
}
