use Rattle.std.proofs.Common.{◌≡◌, ◌+◌, ◌-◌, ◌≤◌, ◌<◌, ◌++◌, drop, length}
use Rattle.std.specs.Prelude.{vec_len, vec_capacity}
use Rattle.util_interner.proofs.key_list.KeyList.push.Given as goal

-- what is written, and what is left
abbrev pub invariant-loop-number : goal.invariant-loop-number
invariant-loop-number l = record {
  room : vec_len l.self-inside.numbers + (length l.list - l.number-index) ≤ vec_capacity l.self-inside.numbers;
  left : l.self-inside.numbers.items ++ drop l.number-index l.list ≡ l.initial.self-inside.numbers.items ++ l.list;
  ends : l.self-inside.ends.items ≡ l.initial.self-inside.ends.items;
  place : vec_len l.self-inside.ends < vec_capacity l.self-inside.ends;
}
