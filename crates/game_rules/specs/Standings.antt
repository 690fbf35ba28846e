-- This crate's own: what `run` promises does not rest on it.
-- The atoms that are asked for in play by kind, and what a list of them tells.
use Rattle.std.specs.Prelude.{ℕ, Bool, true, false, ◌==◌, ◌&&◌, List, length, map, filter, is_some, if◌then◌else◌}
use Rattle.std.specs.List.{list_any, range_with_len}
use Rattle.statement.specs.declared.kind.Kind.{Kind}
use Rattle.statement.specs.declared.kind.Kind.TheVariants.{Fixed, Now, Does, Next, Legal, Goal, Terminal, Other}
use Rattle.statement.specs.Value.{greatest}
use Rattle.game_rules.specs.declared.naming.Naming.{Naming}
use Rattle.game_rules.specs.declared.standing.Sought.{Sought}
use Rattle.game_rules.specs.declared.standing.Sought.TheVariants.{Given, Named, Goals, Ends}
use Rattle.game_rules.specs.declared.standing.Standing.{Standing}
use Rattle.game_rules.specs.RulePlay.{kind_at, number_named, names, is_terminal, goal_value}

-- the state or the joint move tells whether an atom of this kind is right
abbrev pub is_told : Kind → Bool
is_told Fixed = false
is_told (Now p) = true
is_told (Does r m) = true
is_told (Next p) = false
is_told (Legal r m) = false
is_told (Goal r v) = false
is_told Terminal = false
is_told Other = false

abbrev pub is_goal_of : ℕ → Kind → Bool
is_goal_of r Fixed = false
is_goal_of r (Now p) = false
is_goal_of r (Does q m) = false
is_goal_of r (Next p) = false
is_goal_of r (Legal q m) = false
is_goal_of r (Goal q v) = q == r
is_goal_of r Terminal = false
is_goal_of r Other = false

abbrev pub seeks : Sought → Kind → Bool
seeks Given k = is_told k
seeks (Named by) k = is_some (number_named by k)
seeks (Goals r) k = is_goal_of r k
seeks Ends k = is_terminal k

abbrev pub standing_at : List Kind → ℕ → Standing
standing_at kinds a = record { atom = a; kind = kind_at kinds a }

-- the atoms below n whose kinds pass, in order
abbrev pub standing_below : (Kind → Bool) → List Kind → ℕ → List Standing
standing_below test kinds n = map (standing_at kinds) (filter (λ a. test (kind_at kinds a)) (range_with_len 0 n))

abbrev pub all_standing : Sought → List Kind → List Standing
all_standing sought kinds = standing_below (seeks sought) kinds (length kinds)

abbrev pub names_among : List Standing → (ℕ → Bool) → Naming → ℕ → Bool
names_among list right by n = list_any (λ p. right p.atom && names by p.kind n) list

abbrev pub ends_among : List Standing → (ℕ → Bool) → Bool
ends_among list right = list_any (λ p. right p.atom && is_terminal p.kind) list

abbrev pub goal_among : List Standing → (ℕ → Bool) → ℕ → ℕ
goal_among list right r = greatest (map (λ p. if right p.atom then goal_value r p.kind else 0) list)
