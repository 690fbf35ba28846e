-- This crate's own: what `run` promises does not rest on it.
-- How play stands in a state, and what holds, by the texts of the base propositions.
use Rattle.std.specs.Prelude.{ℕ, List, [], ◌∷◌, ◌++◌, codes, if◌then◌else◌}
use Rattle.std.specs.List.{flat_map}
use Rattle.statement.specs.Rules.{Rules, State, is_stuck}
use Rattle.ground_instances.specs.Grounds.{text_at}

-- the line that tells how play stands
abbrev pub standing_line : Rules → State → List ℕ
standing_line g s =
    if g.ended s then codes "state ended" ++ 10 ∷ []
    else if is_stuck g s then codes "state stuck" ++ 10 ∷ []
    else codes "state open" ++ 10 ∷ []

-- the line of a base proposition by its number
abbrev pub numbered_line : List (List ℕ) → ℕ → List ℕ
numbered_line texts n = codes "true " ++ text_at texts n ++ 10 ∷ []

abbrev pub numbered_lines : List (List ℕ) → State → List ℕ
numbered_lines texts s = flat_map (numbered_line texts) s
