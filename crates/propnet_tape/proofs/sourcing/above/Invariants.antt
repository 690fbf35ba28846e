use Rattle.std.proofs.Common.{ℕ, ◌<◌, get_or}
use Rattle.propnet_tape.proofs.sourcing.above.Given as goal

abbrev pub invariant-loop-i : goal.invariant-loop-i
invariant-loop-i l = (j : ℕ) → j < l.i → get_or l.numbers j 0 < l.most
