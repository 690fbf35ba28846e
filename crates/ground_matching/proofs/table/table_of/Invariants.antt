use Rattle.std.proofs.Common.{◌≤◌, length}
use Rattle.ground_matching.proofs.TableLemmas.{TableFrom}
use Rattle.ground_matching.proofs.table.table_of.Given as goal

abbrev pub invariant-places : goal.invariant-places
invariant-places l = (l.left ≤ length l.places) × TableFrom l.places l.left l.table.items

abbrev pub decreases-places : goal.decreases-places
decreases-places l = l.left
