use Rattle.std.proofs.Common.{◌≡◌, ◌++◌, drop}
use Rattle.kif.specs.View.{trees_in}
use Rattle.unroll_strata.specs.Listing.{trees_at}
use Rattle.unroll_strata.proofs.read_items.add_copies.Given as goal

abbrev pub invariant-loop-tree : goal.invariant-loop-tree
invariant-loop-tree l =
    trees_in l.made.items ++ trees_at (drop l.tree-index l.trees) ≡ trees_in l.fn.made.items ++ trees_at l.trees
