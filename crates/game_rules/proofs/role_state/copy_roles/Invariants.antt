use Rattle.std.proofs.Common.{◌≡◌, ℕ, ◌<◌, ◌≤◌, length, get_or, vec_capacity}
use Rattle.game_rules.specs.declared.role_state.RoleState.{RoleState}
use Rattle.game_rules.specs.RuleState.{IsCopied, all_capacities}
use Rattle.game_rules.proofs.role_state.copy_roles.Given as goal

-- each role before this one is copied, and the others are as they were
abbrev pub invariant-loop-role : goal.invariant-loop-role
invariant-loop-role l = record {
  size : length l.to.items ≡ length l.initial.to.items;
  done : (r : ℕ) (d : RoleState) → r < l.role → (e : RoleState) → IsCopied (get_or l.from r e) (get_or l.to.items r d);
  rest : (r : ℕ) (d : RoleState) → l.role ≤ r → get_or l.to.items r d ≡ get_or l.initial.to.items r d;
  capacities : all_capacities l.to.items ≡ all_capacities l.initial.to.items;
  capacity : vec_capacity l.to ≡ vec_capacity l.initial.to;
}
