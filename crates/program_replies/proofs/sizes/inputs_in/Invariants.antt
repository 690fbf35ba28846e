use Rattle.std.proofs.Common.{◌≡◌, take}
use Rattle.ground_instances.specs.Fits.{count_all}
use Rattle.ground_instances.specs.GroundView.{inputs_of}
use Rattle.program_replies.proofs.sizes.inputs_in.Given as goal

abbrev pub invariant-loop-role : goal.invariant-loop-role
invariant-loop-role l = l.count ≡ count_all (take l.role (inputs_of l.ground))
