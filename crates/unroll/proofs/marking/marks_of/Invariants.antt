use Rattle.ground_instances.specs.GroundView.{instances_of, kinds_of}
use Rattle.unroll.specs.Marks.{AreReached}
use Rattle.unroll.proofs.marking.marks_of.Given as goal

abbrev pub invariant-loop-place : goal.invariant-loop-place
invariant-loop-place l = AreReached (kinds_of l.ground) (instances_of l.ground) l.marks.items
