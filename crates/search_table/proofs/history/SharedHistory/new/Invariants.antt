use Rattle.std.proofs.Common.{◌≡◌, ◌+◌, length, take, sum}
use Rattle.search_table.proofs.history.SharedHistory.new.Given as goal

abbrev pub invariant-loop-several : goal.invariant-loop-several
invariant-loop-several l = record {
  roles : length l.starts.items ≡ l.several-index;
  words : length l.counts.items ≡ sum (take l.several-index l.moves);
}

abbrev pub invariant-loop : goal.invariant-loop
invariant-loop l = record {
  roles : length l.starts.items ≡ l.initial.several-index + 1;
  words : length l.counts.items ≡ length l.initial.counts.items + l.counter;
}
