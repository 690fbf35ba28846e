use Rattle.std.proofs.Common.{◌≡◌, drop}
use Rattle.statement.specs.Tree.{trees_of}
use Rattle.kif.specs.View.{tree_of, trees_in}
use Rattle.statement.specs.Safety.{is_name_in, variables_in}
use Rattle.rules_profile.proofs.Facts.{tree_size, trees_size}
use Rattle.rules_relations.proofs.probe.+variables.Given as goal

abbrev pub decreases-has_variable : goal.decreases-has_variable
decreases-has_variable g l = tree_size (tree_of l.e.now)

abbrev pub decreases-have_variable : goal.decreases-have_variable
decreases-have_variable g l = trees_size (trees_in l.parts.now)

abbrev pub invariant-have_variable-loop-part : goal.invariant-have_variable-loop-part
invariant-have_variable-loop-part g l =
    is_name_in l.variable (variables_in (trees_of (trees_in l.parts)))
    ≡ is_name_in l.variable (variables_in (trees_of (trees_in (drop l.part-index l.parts))))
