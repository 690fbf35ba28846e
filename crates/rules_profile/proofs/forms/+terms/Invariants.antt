use Rattle.std.proofs.Common.{◌≡◌, drop}
use Rattle.statement.specs.Tree.{trees_of}
use Rattle.kif.specs.View.{tree_of, trees_in}
use Rattle.statement.specs.Items.{are_terms}
use Rattle.rules_profile.proofs.Sizes.{tree_size, trees_size}
use Rattle.rules_profile.proofs.forms.+terms.Given as goal

abbrev pub decreases-is_term_tree : goal.decreases-is_term_tree
decreases-is_term_tree g l = tree_size (tree_of l.e.now)

abbrev pub decreases-are_term_trees : goal.decreases-are_term_trees
decreases-are_term_trees g l = trees_size (trees_in l.parts.now)

abbrev pub invariant-are_term_trees-loop-part : goal.invariant-are_term_trees-loop-part
invariant-are_term_trees-loop-part g l =
    are_terms (trees_of (trees_in l.parts)) ≡ are_terms (trees_of (trees_in (drop l.part-index l.parts)))
