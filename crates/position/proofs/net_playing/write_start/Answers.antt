use Rattle.std.proofs.Common.{arith}
use Rattle.position.proofs.Words.{lane_marked}
use Rattle.position.proofs.net_playing.write_start.Goals as goal

pub returns : goal.returns
returns c = lane_marked c.loop-p.states c.args.ground.now.starts.items (λ p lt. c.loop-p.invariant p (omega arith))
