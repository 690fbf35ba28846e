use Rattle.std.proofs.Common.{◌≡◌, ◌<◌, ℕ, Bool, ◌||◌, length, take}
use Rattle.std.specs.Prelude.{All}
use Rattle.propnet_tape.specs.Building.{any_of}
use Rattle.propnet_tape.specs.GateGrouping.{any_marked}
use Rattle.propnet_tape.proofs.grouping.part.Given as goal

-- what stands before this literal
abbrev pub invariant-loop-literal : goal.invariant-loop-literal
invariant-loop-literal l = record {
  size : length l.marks ≡ length l.initial.marks;
  value : (w : ℕ → Bool) → any_of w (take l.literal-index l.queue) ≡ (any_of w l.rest.items || any_marked w l.group.from l.marks);
  below : (n : ℕ) → All (λ i. i < n) l.queue → All (λ i. i < n) l.rest.items;
}
