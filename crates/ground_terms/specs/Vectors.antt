-- This crate's own: what `run` promises does not rest on it.
-- What vectors of vectors hold.
use Rattle.std.specs.Prelude.{List, Vec, map}

-- what vectors hold
abbrev pub items_of : {A G : Type 0} → List (Vec A G) → List (List A)
items_of vs = map (λ v. v.items) vs
