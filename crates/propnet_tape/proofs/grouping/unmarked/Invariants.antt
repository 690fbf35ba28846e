use Rattle.std.proofs.Common.{◌≡◌, ◌+◌, ◌*◌, ◌<◌, ℕ, Bool, not, map, take}
use Rattle.std.specs.Prelude.{All}
use Rattle.propnet_tape.specs.Building.{any_of}
use Rattle.propnet_tape.specs.GateGrouping.{any_marked}
use Rattle.propnet_tape.proofs.grouping.unmarked.Given as goal

-- the bits before this one are listed
abbrev pub invariant-loop-place : goal.invariant-loop-place
invariant-loop-place l = record {
  value : (w : ℕ → Bool) → any_of w l.literals.items ≡ any_marked w l.group.from (map not (take l.place l.marks));
  below : All (λ i. i < 2 + 2 * l.group.to) l.literals.items;
}
