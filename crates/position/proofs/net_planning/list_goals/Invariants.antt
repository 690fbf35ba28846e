use Rattle.std.proofs.Common.{◌≡◌, take, map}
use Rattle.position.specs.LanePlans.{goal_pair}
use Rattle.position.proofs.net_planning.list_goals.Given as goal

-- the goals before this one are listed
abbrev pub invariant-loop-place : goal.invariant-loop-place
invariant-loop-place l = l.list.items ≡ map (goal_pair l.places l.role) (take l.place l.atoms.items)
