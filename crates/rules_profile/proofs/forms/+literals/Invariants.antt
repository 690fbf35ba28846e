use Rattle.std.proofs.Common.{◌≡◌, drop}
use Rattle.statement.specs.Tree.{trees_of}
use Rattle.kif.specs.View.{tree_of, trees_in}
use Rattle.statement.specs.Items.{are_literals}
use Rattle.rules_profile.proofs.Sizes.{tree_size, trees_size}
use Rattle.rules_profile.proofs.forms.+literals.Given as goal

abbrev pub decreases-is_literal_tree : goal.decreases-is_literal_tree
decreases-is_literal_tree g l = tree_size (tree_of l.e.now)

abbrev pub decreases-are_literal_trees : goal.decreases-are_literal_trees
decreases-are_literal_trees g l = trees_size (trees_in l.parts.now)

abbrev pub invariant-are_literal_trees-loop-part : goal.invariant-are_literal_trees-loop-part
invariant-are_literal_trees-loop-part g l =
    are_literals (trees_of (trees_in l.parts)) ≡ are_literals (trees_of (trees_in (drop l.part-index l.parts)))
