use Rattle.std.proofs.Common.{◌≡◌, length}
use Rattle.propnet_tape.proofs.builder.enter_all.Given as goal

abbrev pub invariant-loop-i : goal.invariant-loop-i
invariant-loop-i l = length l.table.items ≡ length l.initial.table.items
