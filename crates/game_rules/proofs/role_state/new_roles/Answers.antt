use Rattle.std.proofs.Common.{arith}
use Rattle.game_rules.specs.GroundFacts.{fits}
use Rattle.game_rules.proofs.role_state.new_roles.Goals as goal

pub returns : goal.returns
returns c =
    let fit = (fits c.args.ground.now).inputs_fit in
    let size = c.loop-role.invariant.size in
    let end = c.loop-role.auto.role-end in
    let all = c.roles-role-end.ensures in
    record { size = omega arith; each = λ r d lt. c.loop-role.invariant.each r d (omega arith) }
