use Rattle.std.proofs.Common.{◌≡◌, ℕ, ◌<◌, length, get_or}
use Rattle.ground_instances.specs.Grounds.{texts_at}
use Rattle.ground_instances.specs.GroundView.{kinds_of, inputs_of}
use Rattle.position.specs.declared.lane_plan.RoleLegals.{RoleLegals}
use Rattle.position.specs.LanePlans.{legals_below}
use Rattle.position.proofs.net_planning.plan_legals.Given as goal

-- the legal atoms of each role before this one are listed
abbrev pub invariant-loop-role : goal.invariant-loop-role
invariant-loop-role l = record {
  size : length l.plans.items ≡ l.role;
  each : (r : ℕ) (d : RoleLegals) → r < l.role
      → (get_or l.plans.items r d).legals.items ≡ legals_below l.places (kinds_of l.ground) r (length (texts_at (inputs_of l.ground) r));
}
