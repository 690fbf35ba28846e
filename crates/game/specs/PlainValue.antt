-- This crate's own: what `run` promises does not rest on it.
-- What a role can be sure of where a state at the bound is worth nothing, whatever its goal value.
use Rattle.std.specs.Prelude.{ℕ, ◌==◌, ◌||◌, zero, suc, Option, None, List, [], ◌∷◌, map, find, if◌then◌else◌}
use Rattle.std.specs.Option.{option_map_or}
use Rattle.statement.specs.Rules.{Rules, State, Turn, is_stuck, turns_with}
use Rattle.statement.specs.Value.{greatest, least_after}

-- what `role` can be sure of within `depth` turns
abbrev pub plain_value : Rules → ℕ → ℕ → State → ℕ
plain_value g role zero s = if g.ended s then g.goal s role else 0
plain_value g role (suc depth) s =
    if g.ended s then g.goal s role
    else if is_stuck g s then 0
    else greatest (map (λ m. least_after g (plain_value g role depth) s role m) (g.legal s role))

-- what `role` can be sure of within `depth` turns after the turn in which it plays `own`
abbrev pub plain_worst : Rules → ℕ → ℕ → State → ℕ → ℕ
plain_worst g role depth s own = least_after g (plain_value g role depth) s role own

-- the first own move that attains the plain value
abbrev pub plain_choice : Rules → ℕ → ℕ → State → Option ℕ
plain_choice g role zero s = None
plain_choice g role (suc depth) s =
    if g.ended s || is_stuck g s then None
    else find (λ m. plain_worst g role depth s m == plain_value g role (suc depth) s) (g.legal s role)

-- the first joint move with this own move that is worth no more than any other
abbrev pub plain_reply : Rules → ℕ → ℕ → State → ℕ → Option Turn
plain_reply g role depth s own =
    find (λ j. plain_value g role depth (g.after s j) == plain_worst g role depth s own) (turns_with g s role own)

-- the choice with its reply, and then the line of the state after them
abbrev pub plain_line : Rules → ℕ → ℕ → State → List Turn
plain_line g role zero s = []
plain_line g role (suc depth) s =
    option_map_or
    (λ own. option_map_or (λ j. j ∷ plain_line g role depth (g.after s j)) (plain_reply g role depth s own) [])
    (plain_choice g role (suc depth) s)
    []
