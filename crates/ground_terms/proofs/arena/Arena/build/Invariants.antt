use Rattle.std.proofs.Common.{◌≤◌, length, drop}
use Rattle.ground_terms.proofs.Built.{Built}
use Rattle.ground_terms.proofs.arena.Arena.build.Given as goal

abbrev pub invariant-loop-left : goal.invariant-loop-left
invariant-loop-left l = record {
  built : Built l.initial.self l.self l.values (drop l.left l.parts) l.initial.stack.items l.stack.items;
  within : l.left ≤ length l.parts;
}

abbrev pub decreases-loop-left : goal.decreases-loop-left
decreases-loop-left l = l.left
