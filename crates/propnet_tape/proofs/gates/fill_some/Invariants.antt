use Rattle.std.proofs.Common.{ℕ, ◌≡◌, ◌+◌, ◌*◌, ◌<◌, get_or}
use Rattle.propnet_tape.specs.Values.{is_lane_on, start}
use Rattle.propnet_tape.proofs.gates.fill_some.Given as goal

abbrev pub invariant-loop-i : goal.invariant-loop-i
invariant-loop-i l = (k n : ℕ) → k < 64 → n < 2 + 2 * l.i → is_lane_on l.room k n ≡ start (λ i. is_lane_on l.words k (get_or l.sources i 0)) n
