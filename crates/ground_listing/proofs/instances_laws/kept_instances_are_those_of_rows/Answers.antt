use Rattle.ground_rows.proofs.Facts.{kept_rows}
use Rattle.ground_listing.proofs.instances_laws.kept_instances_are_those_of_rows.Goals as goal

pub returns : goal.returns
returns c = kept_rows
