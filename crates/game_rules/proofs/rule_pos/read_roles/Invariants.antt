use Rattle.std.proofs.Common.{◌≡◌, ℕ, ◌<◌, false, length, get_or}
use Rattle.ground_instances.specs.Grounds.{texts_at}
use Rattle.ground_instances.specs.GroundView.{inputs_of, kinds_of}
use Rattle.game_rules.specs.declared.role_state.RoleState.{RoleState}
use Rattle.game_rules.specs.RuleState.{IsRoleRead}
use Rattle.game_rules.specs.RuleRoom.{HaveMarkedRoom, marked_capacities}
use Rattle.game_rules.proofs.rule_pos.read_roles.Given as goal

-- each role before this one is read
abbrev pub invariant-loop-role : goal.invariant-loop-role
invariant-loop-role l = record {
  room : HaveMarkedRoom (inputs_of l.game.played) l.marks.items l.roles.items;
  read : (r : ℕ) (d : RoleState) → r < l.role → IsRoleRead (kinds_of l.game.played) (λ a. get_or l.right.items a false) r
      (length (texts_at (inputs_of l.game.played) r)) (get_or l.roles.items r d);
  capacities : marked_capacities l.marks l.roles ≡ marked_capacities l.initial.marks l.initial.roles;
}
