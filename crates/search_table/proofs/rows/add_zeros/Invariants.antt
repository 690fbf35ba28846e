use Rattle.std.proofs.Common.{◌≡◌, ◌++◌, replicate, vec_capacity}
use Rattle.search_table.proofs.rows.add_zeros.Given as goal

-- so many words were added
abbrev pub invariant-loop-i : goal.invariant-loop-i
invariant-loop-i l = record {
  words : l.words.items ≡ l.fn.words.items ++ replicate l._i 0;
  capacity : vec_capacity l.words ≡ vec_capacity l.fn.words;
}
