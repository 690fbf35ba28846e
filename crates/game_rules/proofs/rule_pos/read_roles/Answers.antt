use Rattle.std.proofs.Common.{◌≡◌, ◌∷◌, ◌++◌, ℕ, List, length, false, get_or, vec_capacity, ap, ◌∙◌, arith}
use Rattle.std.specs.Prelude.{flat_map}
use Rattle.std.proofs.Math.ListN.{set}
use Rattle.ground_instances.specs.Grounds.{texts_at}
use Rattle.ground_instances.specs.GroundView.{inputs_of, kinds_of}
use Rattle.game_rules.specs.declared.role_state.RoleState.{RoleState}
use Rattle.game_rules.specs.RuleState.{IsRoleRead, role_capacities, all_capacities}
use Rattle.game_rules.proofs.Facts.{flat_map-set, read_more}
use Rattle.game_rules.specs.RuleRoom.{mark_capacities}
use Rattle.game_rules.proofs.RuleRooms.{marks_set, marks_room}
use Rattle.game_rules.proofs.rule_pos.read_roles.Goals as goal

pub read_role-requires-clause-room : goal.read_role-requires-clause-room
read_role-requires-clause-room c =
    let inputs = inputs_of c.args.game.now.played in
    let room = c.loop-role.invariant.room in
    let size : length c.loop-role.roles.items ≡ length inputs = room.roles.size in
    let many : length c.loop-role.marks.items ≡ length inputs = room.size in
    record {
      marks = marks_room inputs c.loop-role.marks.items c.loop-role.role _ c.index_mut.ensures.value (omega arith) room;
      moves = ap (λ (f : RoleState). length f.moves.items) c.index_mut-in-loop-role.ensures.value
          ∙ room.roles.each c.loop-role.role c.index_mut-in-loop-role.result.now (omega arith);
    }

pub loop-role-preserved : goal.loop-role-preserved
loop-role-preserved c =
    let inputs = inputs_of c.args.game.now.played in
    let fs = c.loop-role.roles.items in
    let ms = c.loop-role.marks.items in
    let k = c.loop-role.role in
    let new = c.read_role.new.out in
    let room = c.loop-role.invariant.room in
    let size : length fs ≡ length inputs = room.roles.size in
    let many : length ms ≡ length inputs = room.size in
    record {
      room = marks_set inputs ms fs k c.read_role.new.marks new room (omega arith) (omega arith) c.read_role.ensures.room;
      read = read_more (λ r f. IsRoleRead (kinds_of c.args.game.now.played) (λ a. get_or c.args.right.now.items a false) r
          (length (texts_at inputs r)) f) fs k new (omega arith) c.read_role.ensures.read c.loop-role.invariant.read;
      capacities = ap (λ (ns : List ℕ). vec_capacity c.loop-role.marks ∷ vec_capacity c.loop-role.roles ∷ ns ++ all_capacities (set fs k new))
          (flat_map-set mark_capacities ms k c.read_role.new.marks _
          (c.read_role.ensures.mark_capacities ∙ ap mark_capacities c.index_mut.ensures.value))
          ∙ ap (λ (ns : List ℕ). vec_capacity c.loop-role.marks ∷ vec_capacity c.loop-role.roles ∷ flat_map mark_capacities ms ++ ns)
          (flat_map-set role_capacities fs k new _ (c.read_role.ensures.capacities ∙ ap role_capacities c.index_mut-in-loop-role.ensures.value))
          ∙ c.loop-role.invariant.capacities;
    }
