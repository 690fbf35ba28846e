use Rattle.std.proofs.Common.{◌≡◌, ℕ, ◌<◌, length, get_or}
use Rattle.ground_instances.specs.Grounds.{texts_at}
use Rattle.ground_instances.specs.GroundView.{inputs_of}
use Rattle.game_rules.specs.declared.role_state.RoleState.{RoleState}
use Rattle.game_rules.specs.RuleState.{HasRoleRoom}
use Rattle.game_rules.proofs.role_state.new_roles.Given as goal

-- there is room for each role before this one
abbrev pub invariant-loop-role : goal.invariant-loop-role
invariant-loop-role l = record {
  size : length l.roles.items ≡ l.role;
  each : (r : ℕ) (d : RoleState) → r < l.role → HasRoleRoom (length (texts_at (inputs_of l.ground) r)) (get_or l.roles.items r d);
}
