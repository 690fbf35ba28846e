use Rattle.ground_matching.proofs.PlacedStand.{safe_places}
use Rattle.ground_matching.proofs.placed_laws.safe_variables_have_places.Goals as goal

pub returns : goal.returns
returns c = safe_places
