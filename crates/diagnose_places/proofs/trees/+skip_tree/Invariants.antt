use Rattle.std.proofs.Common.{◌∷◌, take}
use Rattle.statement.specs.Lexical.{opening}
use Rattle.diagnose_places.proofs.Passing.{IsOn, tokens_in}
use Rattle.diagnose_places.proofs.trees.+skip_tree.Given as goal

abbrev pub decreases-skip_tree : goal.decreases-skip_tree
decreases-skip_tree g l = goal.size-skip_tree g l

abbrev pub invariant-loop-part : goal.invariant-loop-part
invariant-loop-part g l = IsOn l.fn.tokens l.tokens (opening ∷ tokens_in (take l.part-index l.part-items))
