use Rattle.ground_terms.proofs.NumberSets.{empty_noted}
use Rattle.ground_terms.proofs.number_set.NumberSet.new.Goals as goal

pub invariant_of-result : goal.invariant_of-result
invariant_of-result c = empty_noted c.new.result.items c.new-2.result.items c.new.ensures.items c.new-2.ensures.items
