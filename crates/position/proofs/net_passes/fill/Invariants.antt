use Rattle.std.proofs.Common.{◌≡◌, ◌≤◌, ◌-◌, length, vec_capacity}
use Rattle.position.proofs.net_passes.fill.Given as goal

abbrev pub invariant-loop-room : goal.invariant-loop-room
invariant-loop-room l = record {
  size : length l.room.items ≤ l.words;
  capacity : vec_capacity l.room ≡ vec_capacity l.fn.room;
}

abbrev pub decreases-loop-room : goal.decreases-loop-room
decreases-loop-room l = l.words - length l.room.items
