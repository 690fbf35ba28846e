use Rattle.std.proofs.Common.{◌≡◌, take}
use Rattle.propnet.specs.Builders.{input_counts}
use Rattle.propnet.proofs.compiling.inputs_of.Given as goal

abbrev pub invariant-loop-role : goal.invariant-loop-role
invariant-loop-role l = l.counts.items ≡ take l.role (input_counts l.ground)
