use Rattle.std.proofs.Common.{take}
use Rattle.diagnose_places.proofs.Passing.{IsBehindAll, tokens_in}
use Rattle.diagnose_places.proofs.trees.behind_items.Given as goal

abbrev pub invariant-loop-item : goal.invariant-loop-item
invariant-loop-item g l = IsBehindAll l.text l.tokens (tokens_in (take l.item-index l.item-items))
