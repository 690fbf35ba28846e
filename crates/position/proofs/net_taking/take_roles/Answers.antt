use Rattle.std.proofs.Common.{◌≡◌, length, ap, ◌∙◌, arith}
use Rattle.ground_instances.specs.Grounds.{texts_at}
use Rattle.ground_instances.specs.GroundView.{inputs_of, kinds_of}
use Rattle.position.specs.NetLanes.{holds_lane}
use Rattle.game_rules.specs.RuleState.{IsRoleRead, role_capacities}
use Rattle.game_rules.proofs.Facts.{flat_map-set, room_set, read_more}
use Rattle.position.proofs.net_taking.take_roles.Goals as goal

pub loop-role-preserved : goal.loop-role-preserved
loop-role-preserved c =
    let game = c.args.game.now in
    let inputs = inputs_of game.played in
    let fs = c.loop-role.roles.items in
    let size : length fs ≡ length inputs = c.loop-role.invariant.room.size in
    record {
      room = room_set inputs fs c.loop-role.role c.take_role.new.out c.loop-role.invariant.room (omega arith) c.take_role.ensures.room;
      read = read_more (λ r f. IsRoleRead (kinds_of game.played) (holds_lane game.played c.args.many.now.states.items c.args.k) r
          (length (texts_at inputs r)) f) fs c.loop-role.role c.take_role.new.out (omega arith)
          c.take_role.ensures.read c.loop-role.invariant.read;
      capacities = flat_map-set role_capacities fs c.loop-role.role c.take_role.new.out _
          (c.take_role.ensures.capacities ∙ ap role_capacities c.index_mut.ensures.value) ∙ c.loop-role.invariant.capacities;
      capacity = c.loop-role.invariant.capacity;
    }
