use Rattle.meaning.proofs.Within.{excess_exact}
use Rattle.meaning.proofs.play_laws.a_limit_is_named_if_passed.Goals as goal

pub returns : goal.returns
returns c = excess_exact
