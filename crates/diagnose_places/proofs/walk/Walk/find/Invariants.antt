use Rattle.std.proofs.Common.{length}
use Rattle.diagnose_places.specs.Unread.{unread}
use Rattle.diagnose_places.proofs.Journeys.{IsSeeking}
use Rattle.diagnose_places.proofs.walk.Walk.find.Given as goal

abbrev pub invariant-loop-token : goal.invariant-loop-token
invariant-loop-token g l = IsSeeking l.initial.self l.self l.tokens l.name

abbrev pub decreases-loop-token : goal.decreases-loop-token
decreases-loop-token g l = length (unread l.tokens)
