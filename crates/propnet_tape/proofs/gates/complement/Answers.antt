use Rattle.propnet_tape.proofs.Lanes.{bit_not_is}
use Rattle.propnet_tape.proofs.gates.complement.Goals as goal

pub returns : goal.returns
returns c = λ k h. bit_not_is c.args.word k c.ranges.word.fits h
