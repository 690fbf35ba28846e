-- What `solve` answers within a window: a value between the bounds as without a window, else which bound it does not pass.
use Rattle.std.specs.Prelude.{ℕ, zero, suc, ◌-◌, ◌||◌, nat_le, nat_lt, List, [], ◌++◌, find, codes, Option, Some, None, if◌then◌else◌}
use Rattle.statement.specs.declared.at_bound.AtBound.{AtBound}
use Rattle.statement.specs.declared.window.Window.{Window}
use Rattle.statement.specs.NamedRules.{NamedRules}
use Rattle.statement.specs.Rules.{Rules, State, is_stuck}
use Rattle.statement.specs.Value.{value, worst}
use Rattle.statement.specs.Answers.{Reply}
use Rattle.statement.specs.Checking.{count_line}
use Rattle.statement.specs.Solving.{move_line, solve_lines}
use Rattle.statement.specs.ForRole.{IsRoleReply}

-- the first own move that makes sure of so much or more
abbrev pub first_at_least : Rules → ℕ → ℕ → AtBound → ℕ → State → Option ℕ
first_at_least g role zero at bound s = None
first_at_least g role (suc depth) at bound s =
    if g.ended s || is_stuck g s then None
    else find (λ m. nat_le bound (worst g role depth at s m)) (g.legal s role)

-- the line of a move, if there is one
abbrev pub own_line : NamedRules → ℕ → Option ℕ → List ℕ
own_line g role None = []
own_line g role (Some own) = move_line (g.move_name role own)

-- the value is so much or more, and this move makes sure of it
abbrev pub at_least_lines : NamedRules → ℕ → ℕ → AtBound → ℕ → State → List ℕ
at_least_lines g role depth at bound s =
    count_line (codes "at-least") bound ++ own_line g role (first_at_least g.rules role depth at bound s)

-- the value is the low bound or less, or between the bounds, or the high bound or more
abbrev pub window_lines : NamedRules → Window → ℕ → ℕ → AtBound → State → List ℕ
window_lines g w role depth at s =
    if nat_lt (value g.rules role depth at s) w.from then count_line (codes "at-most") (w.from - 1)
    else if nat_lt (value g.rules role depth at s) w.to then solve_lines g role depth at s
    else at_least_lines g role depth at w.to s

-- the reply of `solve` within a window
abbrev pub IsWindowReply : NamedRules → List ℕ → ℕ → AtBound → Window → List ℕ → Reply → Type 0
IsWindowReply g role depth at w after reply = IsRoleReply g role (λ r. window_lines g w r depth at) after reply
