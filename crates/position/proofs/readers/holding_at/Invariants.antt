use Rattle.std.proofs.Common.{◌≡◌, ℕ, Bool, take}
use Rattle.std.specs.Prelude.{◌==◌}
use Rattle.std.specs.Int.{bit_at}
use Rattle.std.specs.List.{list_any}
use Rattle.position.specs.NetLanes.{Tells}
use Rattle.position.proofs.readers.holding_at.Given as goal

-- the states in which something before this place holds
abbrev pub invariant-loop-i : goal.invariant-loop-i
invariant-loop-i l = (k : ℕ) (on : ℕ → Bool) → Tells l.tape l.room k on → (bit_at l.any k == 1) ≡ list_any on (take l.i l.places)
