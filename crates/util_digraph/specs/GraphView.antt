-- This crate's own: what `run` promises does not rest on it.
-- What callers see of a graph.
use Rattle.std.specs.Prelude.{ℕ, List, vec_len}
use Rattle.util_digraph.specs.declared.graph.Arrow.{Arrow}
use Rattle.util_digraph.specs.declared.graph.Graph.{Graph}

-- the nodes are the numbers below this
abbrev pub nodes_of : Graph → ℕ
nodes_of g = vec_len g.ends

-- the arrows, in the order in which they were added
abbrev pub arrows_of : Graph → List Arrow
arrows_of g = g.arrows.items
