use Rattle.std.proofs.Common.{◌≡◌, length, get_or, get_or-set_other, ap, subst, ◌∙◌, arith}
use Rattle.std.proofs.Math.ListN.{length-set}
use Rattle.game_rules.specs.declared.role_state.RoleState.{RoleState}
use Rattle.game_rules.specs.RuleState.{IsCopied, role_capacities}
use Rattle.game_rules.proofs.Ranges.{flat_map-set}
use Rattle.game.proofs.Facts.{get_or_any}
use Rattle.game_rules.proofs.RoleStates.{read_more}
use Rattle.game_rules.proofs.role_state.copy_roles.Goals as goal

pub loop-role-preserved : goal.loop-role-preserved
loop-role-preserved c =
    let from = c.args.from.now in
    let old = c.args.to.now.items in
    let fs = c.loop-role.to.items in
    let k = c.loop-role.role in
    let size : length fs ≡ length old = c.loop-role.invariant.size in
    let whole : length from ≡ length old = c.requires.size in
    let new = c.copy_role.new.to in
    record {
      size = length-set fs k new ∙ size;
      done = read_more (λ r f. (e : RoleState) → IsCopied (get_or from r e) f) fs k new (omega arith)
          (λ e. subst (λ (f : RoleState). IsCopied f new) (c.index-from-role.is ∙ get_or_any from k _ e (omega arith)) c.copy_role.ensures.copied)
          c.loop-role.invariant.done;
      rest = λ r d past. get_or-set_other fs k r new d (λ e. absurd (omega arith)) ∙ c.loop-role.invariant.rest r d (omega arith);
      capacities = flat_map-set role_capacities fs k new _ (c.copy_role.ensures.capacities ∙ ap role_capacities c.index_mut.ensures.value)
          ∙ c.loop-role.invariant.capacities;
      capacity = c.loop-role.invariant.capacity;
    }
