use Rattle.std.proofs.Common.{◌≡◌, ◌<◌, ℕ, List, [], ◌∷◌, length, vec_capacity, ap, ◌∙◌, arith}
use Rattle.std.proofs.Math.ListN.{length-set}
use Rattle.game.specs.Joints.{joint_at}
use Rattle.game_rules.specs.declared.rule_many.RuleBase.{RuleBase}
use Rattle.game_rules.specs.RulePlay.{marked}
use Rattle.game_rules.specs.RuleState.{rules_of}
use Rattle.game_rules.specs.RuleMany.{base_capacities}
use Rattle.game_rules.proofs.Facts.{flat_map-set}
use Rattle.game.proofs.Facts.{set_all, set_more, joint_read}
use Rattle.game_rules.proofs.RuleRooms.{base_room}
use Rattle.game_rules.proofs.rule_many.step_each.Goals as goal

pub step_base-requires-clause-room : goal.step_base-requires-clause-room
step_base-requires-clause-room c =
    let room = c.loop-k.invariant.room in
    let few = c.requires.few in
    base_room c.loop-k.states.items c.loop-k.k _ (length c.args.game.now.played.starts.items)
    (room.each c.loop-k.k c.index_mut.result.now (omega arith)) c.index_mut.ensures.value

pub loop-k-preserved : goal.loop-k-preserved
loop-k-preserved c =
    let g = c.args.game.now.played in
    let s = marked c.args.p.now.base.items in
    let ps = c.loop-k.states.items in
    let k = c.loop-k.k in
    let new = c.step_base.new.out in
    let room = c.loop-k.invariant.room in
    let size : length ps ≡ 64 = room.size in
    let few = c.requires.few in
    let inside : k < length ps = omega arith in
    let before : length c.index_mut.result.now.marks.items ≡ length g.starts.items =
    base_room ps k _ (length g.starts.items) (room.each k c.index_mut.result.now (omega arith)) c.index_mut.ensures.value in
    record {
      right = c.step_base.ensures.right ∙ c.loop-k.invariant.right;
      room = record {
        size = length-set ps k new ∙ size;
        each = set_all (λ (p : RuleBase). length p.marks.items ≡ length g.starts.items) ps 64 k new
            inside (c.step_base.ensures.room ∙ before) room.each;
      };
      after = set_more (λ i (p : RuleBase). marked p.marks.items ≡ (rules_of g).after s (joint_at c.args.joints.now i)) ps k new inside
          (c.step_base.ensures.after ∙ ap (λ (j : List ℕ). (rules_of g).after s j)
          (c.deref.ensures ∙ joint_read c.args.joints.now k c.index-joints-k.result (omega arith) c.index-joints-k.is))
          c.loop-k.invariant.after;
      right_capacity = c.step_base.ensures.right_capacity ∙ c.loop-k.invariant.right_capacity;
      capacities = ap (λ (ns : List ℕ). vec_capacity c.loop-k.states ∷ ns) (flat_map-set base_capacities ps k new _
          (ap (λ (n : ℕ). n ∷ []) c.step_base.ensures.capacity ∙ ap base_capacities c.index_mut.ensures.value)) ∙ c.loop-k.invariant.capacities;
    }
