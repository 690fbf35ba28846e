use Rattle.std.proofs.Common.{length}
use Rattle.diagnose_places.specs.Unread.{unread}
use Rattle.diagnose_places.proofs.Words.{IsNotYet}
use Rattle.diagnose_places.proofs.trees.word_start.Given as goal

abbrev pub invariant-loop-token : goal.invariant-loop-token
invariant-loop-token g l = IsNotYet l.text (unread l.initial.tokens) l.tokens l.name

abbrev pub decreases-loop-token : goal.decreases-loop-token
decreases-loop-token g l = length (unread l.tokens)
