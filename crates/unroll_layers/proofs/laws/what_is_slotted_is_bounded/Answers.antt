use Rattle.ground_instances.specs.GroundView.{instances_of}
use Rattle.unroll_layers.proofs.LayeredSlots.{bounded}
use Rattle.unroll_layers.proofs.laws.what_is_slotted_is_bounded.Goals as goal

pub returns : goal.returns
returns c = λ found out own word n g is layered by. bounded found out own word n is.well_formed layered (instances_of g) is.kept_are by
