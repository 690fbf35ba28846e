use Rattle.std.proofs.Common.{◌≡◌, ◌≤◌, length, take, false, get_or, vec_capacity}
use Rattle.std.specs.Prelude.{filter}
use Rattle.std.specs.List.{range_with_len}
use Rattle.game_rules.proofs.reading.list_marked.Given as goal

-- the marked numbers before this one are listed
abbrev pub invariant-loop-number : goal.invariant-loop-number
invariant-loop-number l = record {
  listed : take l.count l.numbers.items ≡ filter (λ n. get_or l.marks n false) (range_with_len 0 l.number);
  count : l.count ≤ l.number;
  size : length l.numbers.items ≡ length l.initial.numbers.items;
  capacity : vec_capacity l.numbers ≡ vec_capacity l.initial.numbers;
}
