use Rattle.maximin.proofs.Packs.{none_known}
use Rattle.maximin.proofs.ahead.new_pack.Goals as goal

pub returns : goal.returns
returns c = λ k. none_known 64 k
