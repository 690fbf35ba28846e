use Rattle.std.proofs.Common.{◌≡◌, ◌<◌, ℕ, Bool}
use Rattle.std.specs.Prelude.{All}
use Rattle.propnet_tape.specs.Building.{any_of, slots_of, signal_value, AreOneOf, IsStep}
use Rattle.propnet_tape.proofs.builder.Builder.any_one_of.Given as goal

-- the or of the queue is that of the first one
abbrev pub invariant-loop-number : goal.invariant-loop-number
invariant-loop-number l = record {
  step : IsStep l.fn.self l.self;
  literals : All (λ i. i < slots_of l.self) l.queue.items;
  value : (bits : ℕ → Bool) → AreOneOf l.fn.self.groups.items bits → any_of (signal_value l.self bits) l.queue.items ≡ any_of (signal_value l.fn.self bits)
      l.fn.queue.items;
}
