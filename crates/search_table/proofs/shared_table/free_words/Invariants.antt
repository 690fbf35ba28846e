use Rattle.std.proofs.Common.{◌≡◌, replicate}
use Rattle.search_table.proofs.shared_table.free_words.Given as goal

-- so many words were added
abbrev pub invariant-loop-i : goal.invariant-loop-i
invariant-loop-i l = l.words.items ≡ replicate l._i 0
