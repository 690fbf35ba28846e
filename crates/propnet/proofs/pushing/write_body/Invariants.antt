use Rattle.std.proofs.Common.{◌≡◌, ◌+◌, ◌-◌, ◌≤◌, ◌++◌, length, map, take}
use Rattle.std.specs.Prelude.{vec_len, vec_capacity}
use Rattle.propnet.specs.Building.{number_read}
use Rattle.propnet.proofs.pushing.write_body.Given as goal

-- the literals before this one are written, and there is room for the others
abbrev pub invariant-loop-place : goal.invariant-loop-place
invariant-loop-place l = record {
  room : vec_len l.operands + (length l.body - l.place) ≤ vec_capacity l.operands;
  written : l.operands.items ≡ l.initial.operands.items ++ map (number_read l.atoms l.nots) (take l.place l.body);
}
