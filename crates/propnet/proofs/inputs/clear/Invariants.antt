use Rattle.std.proofs.Common.{ℕ, ◌≡◌, ◌<◌, ◌≤◌, get_or}
use Rattle.propnet.proofs.inputs.clear.Given as goal

abbrev pub invariant-loop-n : goal.invariant-loop-n
invariant-loop-n l = record {
  cleared : (i : ℕ) → l.start ≤ i → i < l.n → get_or l.out i 0 ≡ 0;
  before : (i : ℕ) → i < l.start → get_or l.out i 0 ≡ get_or l.initial.out i 0;
}
