use Rattle.std.proofs.Common.{◌≡◌}
use Rattle.statement.specs.Kinds.{value_up_to}
use Rattle.ground_terms.proofs.decimals.value_up_to.Given as goal

abbrev pub invariant-loop-value : goal.invariant-loop-value
invariant-loop-value l = value_up_to l.greatest l.name ≡ value_up_to l.value l.name

abbrev pub decreases-loop-value : goal.decreases-loop-value
decreases-loop-value l = l.value
