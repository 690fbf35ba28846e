use Rattle.rules.proofs.DraftLemmas.{Reading}
use Rattle.rules.proofs.draft.read_items.Given as goal

abbrev pub invariant-loop-index : goal.invariant-loop-index
invariant-loop-index g l = Reading l.draft l.items l.index
