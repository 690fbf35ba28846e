use Rattle.kif.specs.View.{tree_of, trees_in}
use Rattle.rules_profile.proofs.Facts.{tree_size, trees_size}
use Rattle.diagnose_explain.proofs.variables.+binding.Given as goal

abbrev pub decreases-gather_bound : goal.decreases-gather_bound
decreases-gather_bound g l = tree_size (tree_of l.e.now)

abbrev pub decreases-gather_all_bound : goal.decreases-gather_all_bound
decreases-gather_all_bound g l = trees_size (trees_in l.parts.now)
