use Rattle.std.proofs.Common.{◌≡◌, drop, nat_lt}
use Rattle.ground_terms.specs.Vectors.{items_of}
use Rattle.ground_rows.specs.Contexts.{count_in}
use Rattle.ground_rows.proofs.context_step.have_more.Given as goal

abbrev pub invariant-loop-list : goal.invariant-loop-list
invariant-loop-list l = nat_lt l.left (count_in (items_of (drop l.list-index l.lists))) ≡ nat_lt l.fn.most (count_in (items_of l.fn.lists))
