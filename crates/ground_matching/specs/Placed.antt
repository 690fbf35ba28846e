-- This crate's own: what `run` promises does not rest on it.
-- The terms that placed parts are.
use Rattle.std.specs.Prelude.{ℕ, ◌≡◌, false, List, [], ◌∷◌, map, Option, Some, unwrap_or, slice_get}
use Rattle.rules_clauses.specs.declared.numbered.Atom.{Atom}
use Rattle.rules_clauses.specs.declared.numbered.Part.{Part}
use Rattle.rules_clauses.specs.declared.numbered.Part.TheVariants as parts
use Rattle.rules_clauses.specs.Marks.{literal_in, binds}
use Rattle.rules_clauses.specs.Store.{Data}
use Rattle.ground_matching.specs.Levels.{parts_in}
use Rattle.ground_matching.specs.Places.{place_of, symbol_of}

-- a part whose variable is the place of its value
abbrev pub placed_part : Data → ℕ → List (Option ℕ) → Part → Part
placed_part d from places (parts.Variable v) = parts.Variable (unwrap_or (place_of (symbol_of d from v) places) 0)
placed_part d from places (parts.Constant s) = parts.Constant s
placed_part d from places (parts.List s n) = parts.List s n

-- the parts of an atom, and of the atom of each literal, with places for variables
abbrev pub placed_atom : Data → ℕ → List (Option ℕ) → Atom → List Part
placed_atom d from places a = map (placed_part d from places) (parts_in d a)

abbrev pub placed_body : Data → ℕ → List (Option ℕ) → List ℕ → List (List Part)
placed_body d from places ns = map (λ n. placed_atom d from places (literal_in d n).atom) ns

abbrev pub HasPlace : ℕ → List (Option ℕ) → Type 0
HasPlace s places = (j : ℕ) × (slice_get places j ≡ Some (Some s))

-- each variable has a place
abbrev pub HavePlaces : Data → ℕ → List (Option ℕ) → List Part → Type 0
HavePlaces d from places [] = Unit {0}
HavePlaces d from places (parts.Variable v ∷ ps) = HasPlace (symbol_of d from v) places × HavePlaces d from places ps
HavePlaces d from places (parts.Constant s ∷ ps) = HavePlaces d from places ps
HavePlaces d from places (parts.List s n ∷ ps) = HavePlaces d from places ps

-- the same in each literal that binds none
abbrev pub HaveNeededPlaces : Data → ℕ → List (Option ℕ) → List ℕ → Type 0
HaveNeededPlaces d from places [] = Unit {0}
HaveNeededPlaces d from places (n ∷ ns) =
    (binds d (literal_in d n) ≡ false → HavePlaces d from places (parts_in d (literal_in d n).atom)) × HaveNeededPlaces d from places ns
