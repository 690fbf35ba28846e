use Rattle.kif.specs.View.{tree_of, trees_in}
use Rattle.rules_profile.proofs.Facts.{tree_size, trees_size}
use Rattle.diagnose_explain.proofs.variables.+gathering.Given as goal

abbrev pub decreases-gather : goal.decreases-gather
decreases-gather g l = tree_size (tree_of l.e.now)

abbrev pub decreases-gather_all : goal.decreases-gather_all
decreases-gather_all g l = trees_size (trees_in l.parts.now)
