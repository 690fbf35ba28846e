use Rattle.position.proofs.LaneLemmas.{either_on}
use Rattle.position.proofs.readers.either.Goals as goal

pub returns : goal.returns
returns c = λ k. either_on c.args.word c.args.other k
