use Rattle.std.proofs.Common.{◌≡◌, false, get_or, take}
use Rattle.game_rules.specs.Standings.{goal_among}
use Rattle.game_rules.proofs.reading.best_goal.Given as goal

-- the greatest of the atoms before this one
abbrev pub invariant-loop-place : goal.invariant-loop-place
invariant-loop-place l = l.best ≡ goal_among (take l.place l.list) (λ a. get_or l.right.items a false) l.role
