use Rattle.position.proofs.KeyLemmas.{bit_here, bit_else}
use Rattle.position.proofs.net_keys.with_bit.Goals as goal

pub returns-clause-here : goal.returns-clause-here
returns-clause-here c = bit_here c.args.word c.args.place c.args.bit c.requires.place c.requires.bit c.requires.none

pub returns-clause-others : goal.returns-clause-others
returns-clause-others c = λ k other. bit_else c.args.word c.args.place c.args.bit k c.requires.place c.requires.bit other
