use Rattle.std.proofs.Common.{◌≡◌, drop}
use Rattle.statement.specs.Tree.{trees_eq, trees_of}
use Rattle.kif.specs.View.{tree_of, trees_in}
use Rattle.rules_profile.proofs.Sizes.{tree_size, trees_size}
use Rattle.rules_profile.proofs.roles.+sameness.Given as goal

abbrev pub decreases-is_same_tree : goal.decreases-is_same_tree
decreases-is_same_tree g l = tree_size (tree_of l.one.now)

abbrev pub decreases-are_same_trees : goal.decreases-are_same_trees
decreases-are_same_trees g l = trees_size (trees_in l.ones.now)

abbrev pub invariant-are_same_trees-loop-index : goal.invariant-are_same_trees-loop-index
invariant-are_same_trees-loop-index g l =
    trees_eq (trees_of (trees_in l.ones)) (trees_of (trees_in l.others))
    ≡ trees_eq (trees_of (trees_in (drop l.index l.ones))) (trees_of (trees_in (drop l.index l.others)))
