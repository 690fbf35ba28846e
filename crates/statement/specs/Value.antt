-- What a role can be sure of, whatever the others do (minimax with several opponents), and the play that makes sure of it.
use Rattle.std.specs.Prelude.{ℕ, ◌==◌, ◌||◌, max, min, zero, suc, Option, None, List, [], ◌∷◌, map, find, if◌then◌else◌}
use Rattle.std.specs.Option.{option_map_or}
use Rattle.statement.specs.declared.at_bound.AtBound.{AtBound}
use Rattle.statement.specs.AtBound.{bound_worth}
use Rattle.statement.specs.Rules.{Rules, State, Turn, is_stuck, turns_with}

-- the greatest of some numbers, and 0 of none
abbrev pub greatest : List ℕ → ℕ
greatest [] = 0
greatest (x ∷ xs) = max x (greatest xs)

-- the least of some numbers, and 0 of none
abbrev pub least : List ℕ → ℕ
least [] = 0
least (x ∷ []) = x
least (x ∷ y ∷ rest) = min x (least (y ∷ rest))

-- the least worth of a state that can follow where `role` plays `own`
abbrev pub least_after : Rules → (State → ℕ) → State → ℕ → ℕ → ℕ
least_after g worth s role own = least (map (λ j. worth (g.after s j)) (turns_with g s role own))

-- what `role` can be sure of within `depth` turns, where `at` says what a state is worth in which play goes on when they are over
abbrev pub value : Rules → ℕ → ℕ → AtBound → State → ℕ
value g role zero at s =
    if g.ended s then g.goal s role
    else if is_stuck g s then 0
    else bound_worth at (g.goal s role)
value g role (suc depth) at s =
    if g.ended s then g.goal s role
    else if is_stuck g s then 0
    else greatest (map (λ m. least_after g (value g role depth at) s role m) (g.legal s role))

-- what `role` can be sure of within `depth` turns after the turn in which it plays `own`
abbrev pub worst : Rules → ℕ → ℕ → AtBound → State → ℕ → ℕ
worst g role depth at s own = least_after g (value g role depth at) s role own

-- the first own move that attains the value
abbrev pub choice_of : Rules → ℕ → ℕ → AtBound → State → Option ℕ
choice_of g role zero at s = None
choice_of g role (suc depth) at s =
    if g.ended s || is_stuck g s then None
    else find (λ m. worst g role depth at s m == value g role (suc depth) at s) (g.legal s role)

-- the first joint move with this own move that is worth no more than any other
abbrev pub reply_of : Rules → ℕ → ℕ → AtBound → State → ℕ → Option Turn
reply_of g role depth at s own =
    find (λ j. value g role depth at (g.after s j) == worst g role depth at s own) (turns_with g s role own)

-- the choice with its reply, and then the line of the state after them
abbrev pub line_of : Rules → ℕ → ℕ → AtBound → State → List Turn
line_of g role zero at s = []
line_of g role (suc depth) at s =
    option_map_or
    (λ own. option_map_or (λ j. j ∷ line_of g role depth at (g.after s j)) (reply_of g role depth at s own) [])
    (choice_of g role (suc depth) at s)
    []
