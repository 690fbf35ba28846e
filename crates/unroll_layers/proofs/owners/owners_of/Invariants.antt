use Rattle.ground_instances.specs.GroundView.{instances_of}
use Rattle.unroll_layers.specs.Owners.{AreOwners}
use Rattle.unroll_layers.proofs.owners.owners_of.Given as goal

abbrev pub invariant-loop-place : goal.invariant-loop-place
invariant-loop-place l = AreOwners l.tops (instances_of l.ground) l.owners.items
