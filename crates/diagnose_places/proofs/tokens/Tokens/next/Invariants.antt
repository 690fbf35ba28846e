use Rattle.std.proofs.Common.{length, ◌-◌}
use Rattle.diagnose_places.proofs.Walks.{IsUnread}
use Rattle.diagnose_places.proofs.tokens.Tokens.next.Given as goal

abbrev pub invariant-loop-self : goal.invariant-loop-self
invariant-loop-self l = IsUnread l.fn.self l.self

abbrev pub decreases-loop-self : goal.decreases-loop-self
decreases-loop-self l = length l.self.text.now - l.self.at
