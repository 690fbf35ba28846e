-- This crate's own: what `run` promises does not rest on it.
-- Which relations head alternatives, by number.
use Rattle.std.specs.Prelude.{Bool, true, cond, List, [], ◌∷◌, slice_set}
use Rattle.rules_clauses.specs.declared.numbered.SharedAlternative.{SharedAlternative}
use Rattle.rules.specs.declared.item_links.Links.{Links}

-- the marks, and those of the heads of alternatives
abbrev pub with_marked_heads : List Bool → List SharedAlternative → List Bool
with_marked_heads marks [] = marks
with_marked_heads marks (a ∷ as') = with_marked_heads (slice_set marks a.head.relation true) as'

-- the marks, and those of the heads of the items that pass a test
abbrev pub with_passing : List Bool → List Links → List Bool → List Bool
with_passing marks [] tests = marks
with_passing marks (l ∷ links) [] = marks
with_passing marks (l ∷ links) (b ∷ tests) = with_passing (cond b (slice_set marks l.head true) marks) links tests
