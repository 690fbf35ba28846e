use Rattle.std.proofs.Common.{◌≤◌, length}
use Rattle.diagnose_places.specs.Places.{IsPlace}
use Rattle.diagnose_places.proofs.place.place_behind.Given as goal

abbrev pub invariant-loop-at : goal.invariant-loop-at
invariant-loop-at l = l.known ≤ length l.text → IsPlace l.text l.known l.fn.place → IsPlace l.text l.at l.here
