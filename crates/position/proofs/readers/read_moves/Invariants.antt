use Rattle.std.proofs.Common.{◌≡◌, ◌≤◌, ℕ, Bool, take}
use Rattle.position.specs.NetLanes.{Tells, moves_on}
use Rattle.position.proofs.readers.read_moves.Given as goal

-- the moves before this place that hold are written
abbrev pub invariant-loop-i : goal.invariant-loop-i
invariant-loop-i l = record {
  listed : (on : ℕ → Bool) → Tells l.tape l.room l.k on → take l.count l.numbers ≡ moves_on on (take l.i l.legals);
  count : l.count ≤ l.i;
}
