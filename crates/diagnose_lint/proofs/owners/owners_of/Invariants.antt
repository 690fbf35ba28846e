use Rattle.kif.specs.View.{trees_in}
use Rattle.diagnose_lint.proofs.OwnerLists.{IsOwned}
use Rattle.diagnose_lint.proofs.owners.owners_of.Given as goal

abbrev pub invariant-loop-place : goal.invariant-loop-place
invariant-loop-place g l = IsOwned (trees_in l.items) l.place l.owners.items
