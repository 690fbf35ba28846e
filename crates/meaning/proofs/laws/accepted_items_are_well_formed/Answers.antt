use Rattle.meaning.proofs.Accepted.{accepted_well_formed}
use Rattle.meaning.proofs.laws.accepted_items_are_well_formed.Goals as goal

pub returns : goal.returns
returns c = accepted_well_formed
