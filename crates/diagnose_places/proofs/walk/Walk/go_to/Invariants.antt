use Rattle.std.proofs.Common.{◌-◌}
use Rattle.diagnose_places.proofs.Journeys.{IsGoing}
use Rattle.diagnose_places.proofs.walk.Walk.go_to.Given as goal

abbrev pub invariant-loop-self : goal.invariant-loop-self
invariant-loop-self g l = IsGoing l.items l.index l.initial.self l.self

abbrev pub decreases-loop-self : goal.decreases-loop-self
decreases-loop-self g l = l.index - l.self.passed
