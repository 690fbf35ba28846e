use Rattle.meaning.proofs.Effects.{dropped_exact}
use Rattle.meaning.proofs.play_laws.dropped_heads_have_no_effect.Goals as goal

pub returns : goal.returns
returns c = dropped_exact
