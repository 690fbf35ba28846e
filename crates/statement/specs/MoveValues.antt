-- What `values` answers: of each legal move of a role what it makes sure of.
use Rattle.std.specs.Prelude.{ℕ, zero, suc, ◌||◌, List, [], ◌∷◌, ◌++◌, codes, if◌then◌else◌}
use Rattle.std.specs.Fmt.{decimal}
use Rattle.std.specs.List.{flat_map}
use Rattle.statement.specs.declared.at_bound.AtBound.{AtBound}
use Rattle.statement.specs.NamedRules.{NamedRules}
use Rattle.statement.specs.Rules.{State, is_stuck}
use Rattle.statement.specs.Value.{worst}
use Rattle.statement.specs.Answers.{Reply}
use Rattle.statement.specs.Solving.{solve_lines}
use Rattle.statement.specs.ForRole.{IsRoleReply}

-- the line of an own move, and the least value that it leaves
abbrev pub worth_line : NamedRules → ℕ → ℕ → AtBound → State → ℕ → List ℕ
worth_line g role depth at s own = codes "value " ++ decimal (worst g.rules role depth at s own) ++ 32 ∷ g.move_name role own ++ 10 ∷ []

-- a line of each legal move; where there is no turn to come, the lines of `solve`
abbrev pub values_lines : NamedRules → ℕ → ℕ → AtBound → State → List ℕ
values_lines g role zero at s = solve_lines g role zero at s
values_lines g role (suc depth) at s =
    if g.rules.ended s || is_stuck g.rules s then solve_lines g role (suc depth) at s
    else flat_map (worth_line g role depth at s) (g.rules.legal s role)

abbrev pub IsValuesReply : NamedRules → List ℕ → ℕ → AtBound → List ℕ → Reply → Type 0
IsValuesReply g role depth at after reply = IsRoleReply g role (λ r. values_lines g r depth at) after reply
