use Rattle.kif.specs.View.{tree_of, trees_in}
use Rattle.rules_profile.proofs.Facts.{tree_size, trees_size}
use Rattle.diagnose_explain.proofs.halves.+asking.Given as goal

abbrev pub decreases-asks_free : goal.decreases-asks_free
decreases-asks_free g l = tree_size (tree_of l.e.now)

abbrev pub decreases-some_asks_free : goal.decreases-some_asks_free
decreases-some_asks_free g l = trees_size (trees_in l.parts.now)
