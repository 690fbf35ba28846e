use Rattle.std.proofs.Common.{◌≡◌, ℕ, map, take, slice_index}
use Rattle.propnet_tape.proofs.gathering.gather.Given as goal

abbrev pub invariant-loop-number : goal.invariant-loop-number
invariant-loop-number l = l.queue.items ≡ map (λ (n : ℕ). slice_index l.literals n) (take l.number-index l.numbers)
