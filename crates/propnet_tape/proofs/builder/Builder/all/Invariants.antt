use Rattle.std.proofs.Common.{◌-◌, ◌<◌, drop, length}
use Rattle.propnet_tape.proofs.Folds.{IsAll}
use Rattle.propnet_tape.proofs.builder.Builder.all.Given as goal

abbrev pub invariant-loop-front : goal.invariant-loop-front
invariant-loop-front l = record {
  within : l.front < length l.queue.items;
  rest : IsAll l.fn.self l.self l.fn.queue.items (drop l.front l.queue.items);
}

abbrev pub decreases-loop-front : goal.decreases-loop-front
decreases-loop-front l = length l.queue.items - l.front
