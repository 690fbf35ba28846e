use Rattle.diagnose_places.proofs.Walks.{IsTogether}
use Rattle.diagnose_places.proofs.line.line_start.Given as goal

abbrev pub invariant-loop-start : goal.invariant-loop-start
invariant-loop-start l = IsTogether l.text l.offset l.start

abbrev pub decreases-loop-start : goal.decreases-loop-start
decreases-loop-start l = l.start
