use Rattle.std.proofs.Common.{arith}
use Rattle.game_rules.specs.GroundFacts.{fits}
use Rattle.game_rules.proofs.rule_pos.new_marks.Goals as goal

pub returns-clause-size : goal.returns-clause-size
returns-clause-size c =
    let fit = (fits c.args.ground.now).inputs_fit in
    let size = c.loop-role.invariant.size in
    let end = c.loop-role.auto.role-end in
    let all = c.roles-role-end.ensures in
    omega arith

pub returns-clause-each : goal.returns-clause-each
returns-clause-each c = λ r d lt.
    let fit = (fits c.args.ground.now).inputs_fit in
    let end = c.loop-role.auto.role-end in
    let all = c.roles-role-end.ensures in
    c.loop-role.invariant.each r d (omega arith)
