use Rattle.ground_matching.proofs.PlacedStand.{placed_agree}
use Rattle.ground_matching.proofs.placed_laws.placed_parts_are_the_terms.Goals as goal

pub returns : goal.returns
returns c = placed_agree
