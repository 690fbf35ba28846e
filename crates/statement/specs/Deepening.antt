-- What `solve --deepen` answers: depth by depth what `solve` does, until the value is one that no further turn changes.
use Rattle.std.specs.Prelude.{ℕ, ◌==◌, Bool, List, [], ◌∷◌, ◌++◌, codes, find, Option, Some, None, unwrap_or}
use Rattle.std.specs.List.{flat_map, range_with_len}
use Rattle.std.proofs.Common.{lit≤}
use Rattle.statement.specs.declared.at_bound.AtBound.{AtBound}
use Rattle.statement.specs.declared.at_bound.AtBound.TheVariants.{Unfinished}
use Rattle.statement.specs.declared.at_bound.Worth.{Worth}
use Rattle.statement.specs.NamedRules.{NamedRules}
use Rattle.statement.specs.Rules.{Rules, State}
use Rattle.statement.specs.Value.{value}
use Rattle.statement.specs.Answers.{Reply}
use Rattle.statement.specs.Checking.{count_line}
use Rattle.statement.specs.Solving.{solve_lines}
use Rattle.statement.specs.ForRole.{IsRoleReply}

-- the least and the greatest worth
abbrev pub least_worth : Worth
least_worth = record { value = 0; in_range = lit≤ tt }

abbrev pub greatest_worth : Worth
greatest_worth = record { value = 100; in_range = lit≤ tt }

-- the value within so many turns is the same where unfinished play is worth 0 and where it is worth 100
abbrev pub is_settled : Rules → ℕ → State → ℕ → Bool
is_settled g role s depth = value g role depth (Unfinished least_worth) s == value g role depth (Unfinished greatest_worth) s

-- the first depth from 1 to `depth` at which the value is settled
abbrev pub first_settled : Rules → ℕ → ℕ → State → Option ℕ
first_settled g role depth s = find (is_settled g role s) (range_with_len 1 depth)

-- a depth, and the lines of `solve` to that depth
abbrev pub depth_lines : NamedRules → ℕ → AtBound → State → ℕ → List ℕ
depth_lines g role at s depth = count_line (codes "depth") depth ++ solve_lines g role depth at s

abbrev pub settled_line : Option ℕ → List ℕ
settled_line None = []
settled_line (Some depth) = codes "settled" ++ 10 ∷ []

-- the lines of each depth from 1 to the first that is settled, and that it is; or of each to `depth`, where none is
abbrev pub deepen_lines : NamedRules → ℕ → ℕ → AtBound → State → List ℕ
deepen_lines g role depth at s =
    flat_map (depth_lines g role at s) (range_with_len 1 (unwrap_or (first_settled g.rules role depth s) depth))
    ++ settled_line (first_settled g.rules role depth s)

abbrev pub IsDeepenReply : NamedRules → List ℕ → ℕ → AtBound → List ℕ → Reply → Type 0
IsDeepenReply g role depth at after reply = IsRoleReply g role (λ r. deepen_lines g r depth at) after reply
