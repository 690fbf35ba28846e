use Rattle.std.proofs.Common.{ℕ, ◌≡◌, ◌+◌, ◌-◌, ◌*◌, ◌<◌, ◌≤◌, length, drop}
use Rattle.propnet_tape.specs.Values.{pass, is_lane_on}
use Rattle.propnet_tape.proofs.gates.run_gates.Given as goal

-- the gates before this one have run
abbrev pub invariant-fours : goal.invariant-fours
invariant-fours l = record {
  within : l.i ≤ length l.gates;
  same : (k n : ℕ) → k < 64 → pass (l.first + 2 * l.i) (drop l.i l.gates) (is_lane_on l.room k) n ≡ pass l.first l.gates (is_lane_on l.initial.room k)
      n;
}

abbrev pub invariant-rest : goal.invariant-rest
invariant-rest l = record {
  within : l.i ≤ length l.gates;
  same : (k n : ℕ) → k < 64 → pass (l.first + 2 * l.i) (drop l.i l.gates) (is_lane_on l.room k) n ≡ pass l.first l.gates (is_lane_on l.fn.room k) n;
}

abbrev pub decreases-fours : goal.decreases-fours
decreases-fours l = length l.gates - l.i

abbrev pub decreases-rest : goal.decreases-rest
decreases-rest l = length l.gates - l.i
