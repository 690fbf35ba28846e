use Rattle.std.proofs.Common.{ℕ, ◌<◌, get_or}
use Rattle.statement.specs.Kept.{Kept}
use Rattle.ground_instances.specs.GroundView.{instances_of}
use Rattle.unroll_layers.specs.Owners.{IsOf, IsSlotted}
use Rattle.unroll_layers.proofs.checking.are_slotted.Given as goal

abbrev pub invariant-loop-place : goal.invariant-loop-place
invariant-loop-place l = (k : ℕ) → k < l.place → (d : Kept) → IsOf l.layers (get_or (instances_of l.ground) k d)
    → IsSlotted l.owners l.slots.slots.items l.slots.members.items l.bound (get_or (instances_of l.ground) k d)
