use Rattle.meaning.proofs.Together.{together}
use Rattle.meaning.proofs.whole_laws.what_is_answered_apart_is_answered_together.Goals as goal

pub returns : goal.returns
returns c = λ rules out own one other parts a b. together rules out own one other parts a b
