-- This crate's own: what `run` promises does not rest on it.
-- What stands behind a tree.
use Rattle.std.specs.Prelude.{ℕ, Bool, true, false, List, [], ◌∷◌}

-- a line end, where the tree stands in no list
abbrev pub line_end : Bool → List ℕ
line_end true = 10 ∷ []
line_end false = []
