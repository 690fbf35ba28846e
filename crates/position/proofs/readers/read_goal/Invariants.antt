use Rattle.std.proofs.Common.{◌≡◌, ℕ, Bool, take}
use Rattle.position.specs.NetLanes.{Tells, goal_on}
use Rattle.position.proofs.readers.read_goal.Given as goal

-- the greatest value of those before this place that hold
abbrev pub invariant-loop-i : goal.invariant-loop-i
invariant-loop-i l = (on : ℕ → Bool) → Tells l.tape l.room l.k on → l.best ≡ goal_on on (take l.i l.goals)
