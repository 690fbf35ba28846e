use Rattle.kif.specs.View.{tree_of, trees_in}
use Rattle.rules_profile.proofs.Facts.{tree_size, trees_size}
use Rattle.diagnose_explain.proofs.halves.+free.Given as goal

abbrev pub decreases-leaves_free : goal.decreases-leaves_free
decreases-leaves_free g l = tree_size (tree_of l.e.now)

abbrev pub decreases-some_leaves_free : goal.decreases-some_leaves_free
decreases-some_leaves_free g l = trees_size (trees_in l.parts.now)

abbrev pub decreases-all_leave_free : goal.decreases-all_leave_free
decreases-all_leave_free g l = trees_size (trees_in l.parts.now)
