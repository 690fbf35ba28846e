use Rattle.std.proofs.Common.{◌≡◌, ℕ, ◌<◌, length, get_or}
use Rattle.ground_instances.specs.GroundView.{kinds_of}
use Rattle.position.specs.declared.lane_plan.RoleGoals.{RoleGoals}
use Rattle.position.specs.LanePlans.{goals_of}
use Rattle.position.proofs.net_planning.plan_goals.Given as goal

-- the goals of each role before this one are listed
abbrev pub invariant-loop-role : goal.invariant-loop-role
invariant-loop-role l = record {
  size : length l.plans.items ≡ l.role;
  each : (r : ℕ) (d : RoleGoals) → r < l.role → (get_or l.plans.items r d).goals.items ≡ goals_of l.places (kinds_of l.ground) r;
}
