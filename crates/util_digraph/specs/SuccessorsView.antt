-- This crate's own: what `run` promises does not rest on it.
-- What an iterator over successors has still to give.
use Rattle.std.specs.Prelude.{ℕ, List}
use Rattle.util_digraph.specs.declared.successors.Successors.{Successors}
use Rattle.util_digraph.specs.Successors.{targets_among}

abbrev pub left_of : Successors → List ℕ
left_of s = targets_among s.graph.now.arrows.items s.node s.end
