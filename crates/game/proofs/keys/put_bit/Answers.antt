use Rattle.game.proofs.KeyLemmas.{bit_here, bit_other}
use Rattle.game.proofs.keys.put_bit.Goals as goal

pub returns-clause-here : goal.returns-clause-here
returns-clause-here c =
    bit_here c.args.key.now c.args.proposition c.with_bit.result c.args.on c.requires c.with_bit.ensures.here

pub returns-clause-others : goal.returns-clause-others
returns-clause-others c = λ p other.
    bit_other c.args.key.now c.args.proposition c.with_bit.result p c.requires other c.with_bit.ensures.others
