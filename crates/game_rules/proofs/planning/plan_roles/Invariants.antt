use Rattle.std.proofs.Common.{◌≡◌, ℕ, ◌<◌, length, get_or}
use Rattle.ground_instances.specs.GroundView.{kinds_of}
use Rattle.game_rules.specs.declared.plan.RolePlan.{RolePlan}
use Rattle.game_rules.specs.Plans.{IsRolePlanOf}
use Rattle.game_rules.proofs.planning.plan_roles.Given as goal

-- there is a plan for each role before this one
abbrev pub invariant-loop-role : goal.invariant-loop-role
invariant-loop-role l = record {
  size : length l.plans.items ≡ l.role;
  each : (r : ℕ) (d : RolePlan) → r < l.role → IsRolePlanOf (kinds_of l.ground) r (get_or l.plans.items r d);
}
