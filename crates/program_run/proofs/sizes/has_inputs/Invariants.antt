use Rattle.std.proofs.Common.{◌≡◌, ◌<◌, ℕ, length}
use Rattle.ground_instances.specs.Grounds.{texts_at}
use Rattle.ground_instances.specs.GroundView.{inputs_of}
use Rattle.program_run.proofs.sizes.has_inputs.Given as goal

abbrev pub invariant-loop-role : goal.invariant-loop-role
invariant-loop-role l = (r : ℕ) → r < l.role → length (texts_at (inputs_of l.made) r) ≡ 0
