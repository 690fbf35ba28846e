use Rattle.std.proofs.Common.{arith}
use Rattle.propnet.proofs.Lanes.{with_same, with_other}
use Rattle.propnet.proofs.inputs.with_bit.Goals as goal

pub returns-clause-same : goal.returns-clause-same
returns-clause-same c = with_same c.args.word 1 c.args.k (omega arith) c.requires.within c.requires.fresh

pub returns-clause-others : goal.returns-clause-others
returns-clause-others c = λ j ne. with_other c.args.word 1 c.args.k j (omega arith) c.requires.within ne
