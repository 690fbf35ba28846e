-- What `values --lines` answers: of each legal move of a role what it makes sure of, and the line of play behind it.
use Rattle.std.specs.Prelude.{ℕ, zero, suc, ◌||◌, List, [], ◌∷◌, ◌++◌, if◌then◌else◌}
use Rattle.std.specs.List.{flat_map}
use Rattle.std.specs.Option.{option_map_or}
use Rattle.statement.specs.declared.at_bound.AtBound.{AtBound}
use Rattle.statement.specs.NamedRules.{NamedRules}
use Rattle.statement.specs.Rules.{Rules, State, Turn, is_stuck}
use Rattle.statement.specs.Value.{reply_of, line_of}
use Rattle.statement.specs.Answers.{Reply}
use Rattle.statement.specs.Solving.{turn_lines, solve_lines}
use Rattle.statement.specs.MoveValues.{worth_line}
use Rattle.statement.specs.ForRole.{IsRoleReply}

-- the first joint move with this own move that is worth no more than any other, and then the line of the state after it
abbrev pub line_behind : Rules → ℕ → ℕ → AtBound → State → ℕ → List Turn
line_behind g role depth at s own =
    option_map_or (λ j. j ∷ line_of g role depth at (g.after s j)) (reply_of g role depth at s own) []

-- the line of an own move and the least value that it leaves, and then the turns that begin with it
abbrev pub move_lines : NamedRules → ℕ → ℕ → AtBound → State → ℕ → List ℕ
move_lines g role depth at s own = worth_line g role depth at s own ++ turn_lines g 1 (line_behind g.rules role depth at s own)

-- the lines of each legal move; where there is no turn to come, the lines of `solve`
abbrev pub moves_with_lines : NamedRules → ℕ → ℕ → AtBound → State → List ℕ
moves_with_lines g role zero at s = solve_lines g role zero at s
moves_with_lines g role (suc depth) at s =
    if g.rules.ended s || is_stuck g.rules s then solve_lines g role (suc depth) at s
    else flat_map (move_lines g role depth at s) (g.rules.legal s role)

abbrev pub IsLinesReply : NamedRules → List ℕ → ℕ → AtBound → List ℕ → Reply → Type 0
IsLinesReply g role depth at after reply = IsRoleReply g role (λ r. moves_with_lines g r depth at) after reply
