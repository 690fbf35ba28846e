-- This crate's own: what `run` promises does not rest on it.
-- The arrows of what items join.
use Rattle.std.specs.Prelude.{ℕ, List, [], ◌∷◌, ◌++◌}
use Rattle.util_digraph.specs.declared.graph.Arrow.{Arrow}
use Rattle.rules.specs.declared.item_links.Links.{Links}

abbrev pub arrows_from : ℕ → List ℕ → List Arrow
arrows_from head [] = []
arrows_from head (b ∷ body) = record { from = head; to = b } ∷ arrows_from head body

abbrev pub arrows_in : List Links → List Arrow
arrows_in [] = []
arrows_in (l ∷ links) = arrows_from l.head l.body.items ++ arrows_in links
