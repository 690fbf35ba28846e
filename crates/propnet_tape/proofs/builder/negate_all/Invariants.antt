use Rattle.std.proofs.Common.{◌≡◌, ℕ, ◌<◌, ◌≤◌, length, get_or}
use Rattle.propnet_tape.specs.Building.{IsNegation}
use Rattle.propnet_tape.proofs.builder.negate_all.Given as goal

abbrev pub invariant-loop-i : goal.invariant-loop-i
invariant-loop-i l = record {
  count : length l.queue.items ≡ length l.initial.queue.items;
  done : (k : ℕ) → k < l.i → IsNegation (get_or l.initial.queue.items k 0) (get_or l.queue.items k 0);
  left : (k : ℕ) → l.i ≤ k → get_or l.queue.items k 0 ≡ get_or l.initial.queue.items k 0;
}
