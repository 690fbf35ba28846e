use Rattle.std.proofs.Common.{◌≡◌, length}
use Rattle.maximin.proofs.memory.new_words.Given as goal

abbrev pub invariant-loop : goal.invariant-loop
invariant-loop l = record { count : length l.words.items ≡ l.counter }
