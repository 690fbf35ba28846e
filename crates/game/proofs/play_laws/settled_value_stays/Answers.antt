use Rattle.game.proofs.Settled.{settled_stays}
use Rattle.game.proofs.play_laws.settled_value_stays.Goals as goal

pub returns : goal.returns
returns c = settled_stays
