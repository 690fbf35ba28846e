use Rattle.std.proofs.Common.{length, arith}
use Rattle.propnet.specs.Values.{lane}
use Rattle.position.proofs.Lanes.{same_state, spread_words}
use Rattle.position.proofs.net_taking.take_lane.Goals as goal

pub returns-clause-spread : goal.returns-clause-spread
returns-clause-spread c =
    spread_words c.loop-p.lanes (length c.args.states.now) (lane c.args.states.now c.args.k) (omega arith)
    (λ p j lt below. c.loop-p.invariant p j (omega arith) below)

pub returns-clause-told : goal.returns-clause-told
returns-clause-told c =
    same_state (lane c.loop-p.lanes 0) (lane c.args.states.now c.args.k) (length c.args.states.now)
    (λ p lt. c.loop-p.invariant p 0 (omega arith) (omega arith))
