use Rattle.std.proofs.Common.{◌≡◌, ℕ, ◌<◌, length, get_or, vec_capacity}
use Rattle.game.specs.Joints.{joint_at}
use Rattle.game_rules.specs.declared.rule_many.RuleBase.{RuleBase}
use Rattle.game_rules.specs.RulePlay.{marked}
use Rattle.game_rules.specs.RuleState.{rules_of}
use Rattle.game_rules.specs.RuleMany.{HaveBaseRoom, all_base_capacities}
use Rattle.game_rules.proofs.rule_many.step_each.Given as goal

-- the states before this one are written
abbrev pub invariant-loop-k : goal.invariant-loop-k
invariant-loop-k l = record {
  right : length l.right.items ≡ length l.initial.right.items;
  room : HaveBaseRoom l.game.played l.states.items;
  after : (i : ℕ) (d : RuleBase) → i < l.k → marked (get_or l.states.items i d).marks.items ≡ (rules_of l.game.played).after (marked l.p.base.items)
      (joint_at l.joints i);
  right_capacity : vec_capacity l.right ≡ vec_capacity l.initial.right;
  capacities : all_base_capacities l.states ≡ all_base_capacities l.initial.states;
}
