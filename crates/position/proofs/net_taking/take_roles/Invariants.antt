use Rattle.std.proofs.Common.{◌≡◌, ℕ, ◌<◌, length, get_or, vec_capacity}
use Rattle.ground_instances.specs.Grounds.{texts_at}
use Rattle.ground_instances.specs.GroundView.{inputs_of, kinds_of}
use Rattle.game_rules.specs.declared.role_state.RoleState.{RoleState}
use Rattle.position.specs.NetLanes.{holds_lane}
use Rattle.game_rules.specs.RuleState.{HaveRoom, IsRoleRead, all_capacities}
use Rattle.position.proofs.net_taking.take_roles.Given as goal

-- each role before this one is written
abbrev pub invariant-loop-role : goal.invariant-loop-role
invariant-loop-role l = record {
  room : HaveRoom (inputs_of l.game.played) l.roles.items;
  read : (r : ℕ) (d : RoleState) → r < l.role → IsRoleRead (kinds_of l.game.played) (holds_lane l.game.played l.many.states.items l.k) r
      (length (texts_at (inputs_of l.game.played) r)) (get_or l.roles.items r d);
  capacities : all_capacities l.roles.items ≡ all_capacities l.initial.roles.items;
  capacity : vec_capacity l.roles ≡ vec_capacity l.initial.roles;
}
