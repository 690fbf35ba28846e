use Rattle.std.proofs.Common.{◌≡◌, drop}
use Rattle.statement.specs.Tree.{trees_of}
use Rattle.kif.specs.View.{tree_of, trees_in}
use Rattle.statement.specs.Profile.{is_empty}
use Rattle.statement.specs.Safety.{variables_in}
use Rattle.rules_profile.proofs.Sizes.{tree_size, trees_size}
use Rattle.rules_profile.proofs.places.+ground_trees.Given as goal

abbrev pub decreases-is_without_variables : goal.decreases-is_without_variables
decreases-is_without_variables g l = tree_size (tree_of l.e.now)

abbrev pub decreases-are_without_variables : goal.decreases-are_without_variables
decreases-are_without_variables g l = trees_size (trees_in l.parts.now)

abbrev pub invariant-are_without_variables-loop-part : goal.invariant-are_without_variables-loop-part
invariant-are_without_variables-loop-part g l =
    is_empty (variables_in (trees_of (trees_in l.parts))) ≡ is_empty (variables_in (trees_of (trees_in (drop l.part-index l.parts))))
