use Rattle.kif.specs.View.{tree_of, trees_in}
use Rattle.rules_profile.proofs.Facts.{tree_size, trees_size}
use Rattle.diagnose_explain.proofs.forms.+flaws_of_literals.Given as goal

abbrev pub decreases-flaw_of_literal : goal.decreases-flaw_of_literal
decreases-flaw_of_literal g l = tree_size (tree_of l.e.now)

abbrev pub decreases-flaw_of_literals : goal.decreases-flaw_of_literals
decreases-flaw_of_literals g l = trees_size (trees_in l.parts.now)
