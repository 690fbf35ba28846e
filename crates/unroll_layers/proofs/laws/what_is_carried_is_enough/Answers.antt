use Rattle.ground_instances.specs.GroundView.{instances_of}
use Rattle.unroll_layers.proofs.StackedSlots.{enough}
use Rattle.unroll_layers.proofs.laws.what_is_carried_is_enough.Goals as goal

pub returns : goal.returns
returns c = λ found out own word m g is stacked by. enough found out own word m is.well_formed stacked (instances_of g) is.kept_are by
