use Rattle.std.proofs.Common.{arith}
use Rattle.std.proofs.Math.Nat.{le-mul_of_pos_right}
use Rattle.share.proofs.Plans.{plan_free, replies_some}
use Rattle.share.proofs.alone.answer_if_short.Goals as goal

pub value_and_choice_if_short-requires-clause-turn : goal.value_and_choice_if_short-requires-clause-turn
value_and_choice_if_short-requires-clause-turn g c κs within =
    let node = c.args.node.now in
    record {
      turn = λ e. absurd (omega (arith, e, node.turn));
      going = node.going;
      free = plan_free (g.G.Game.rules node.game.now) (g.G.Game.state node.game.now node.from.now) node.asked.role node.plan node.planned;
    }

pub overflow_cast-result : goal.overflow_cast-result
overflow_cast-result g c =
    let node = c.args.node.now in
    let some = replies_some (g.G.Game.rules node.game.now) (g.G.Game.state node.game.now node.from.now) node.asked.role node.plan node.planned in
    let most = le-mul_of_pos_right node.plan.moves some in
    omega (arith, node.planned.moves, node.planned.few, most, c.in_ok-found.ensures.within)
