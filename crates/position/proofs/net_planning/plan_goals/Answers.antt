use Rattle.std.proofs.Common.{arith}
use Rattle.game_rules.specs.GroundFacts.{fits}
use Rattle.position.proofs.net_planning.plan_goals.Goals as goal

pub returns-clause-each : goal.returns-clause-each
returns-clause-each c =
    let fit = (fits c.args.ground.now).inputs_fit in
    let size = c.loop-role.invariant.size in
    let end = c.loop-role.auto.role-end in
    let all = c.roles-role-end.ensures in
    λ r d lt. c.loop-role.invariant.each r d (omega arith)
