use Rattle.std.proofs.Common.{◌≡◌, ◌<◌, length}
use Rattle.propnet_tape.proofs.builder.Builder.make_room.Given as goal

abbrev pub invariant-loop-place : goal.invariant-loop-place
invariant-loop-place l = record {
  gates : l.self.gates.items ≡ l.initial.self.gates.items;
  first : l.self.first ≡ l.initial.self.first;
  groups : l.self.groups.items ≡ l.initial.self.groups.items;
  table : 0 < length l.self.table.items;
}
