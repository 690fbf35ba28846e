use Rattle.std.specs.List.{AllWithin}
use Rattle.unroll_layers.specs.Owners.{LeadsFrom}
use Rattle.unroll_layers.proofs.checking.all_lead_from.Given as goal

abbrev pub invariant-loop-literal : goal.invariant-loop-literal
invariant-loop-literal l = AllWithin (LeadsFrom l.owners l.slots.slots.items l.node) l.body 0 l.literal-index
