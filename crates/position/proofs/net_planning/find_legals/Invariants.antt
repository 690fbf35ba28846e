use Rattle.std.proofs.Common.{◌≡◌, ℕ, ◌<◌, length, get_or, None}
use Rattle.ground_instances.specs.GroundView.{kinds_of}
use Rattle.position.specs.LanePlans.{legal_named}
use Rattle.position.proofs.net_planning.find_legals.Given as goal

-- the atoms before this one are noted at their moves
abbrev pub invariant-loop-atom : goal.invariant-loop-atom
invariant-loop-atom l = record {
  size : length l.found.items ≡ l.moves;
  each : (m : ℕ) → m < l.moves → get_or l.found.items m None ≡ legal_named (kinds_of l.ground) l.role m l.atom;
}
