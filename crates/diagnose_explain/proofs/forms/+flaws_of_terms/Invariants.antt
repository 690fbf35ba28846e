use Rattle.kif.specs.View.{tree_of, trees_in}
use Rattle.rules_profile.proofs.Facts.{tree_size, trees_size}
use Rattle.diagnose_explain.proofs.forms.+flaws_of_terms.Given as goal

abbrev pub decreases-flaw_of_term : goal.decreases-flaw_of_term
decreases-flaw_of_term g l = tree_size (tree_of l.e.now)

abbrev pub decreases-flaw_of_terms : goal.decreases-flaw_of_terms
decreases-flaw_of_terms g l = trees_size (trees_in l.terms.now)
