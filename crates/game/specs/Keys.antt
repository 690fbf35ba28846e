-- This crate's own: what `run` promises does not rest on it.
-- Keys: words with a bit for each base proposition, and rows of them.
use Rattle.std.specs.Prelude.{ℕ, ◌+◌, ◌*◌, ◌/◌, ◌%◌, ◌==◌, Bool, List, filter, slice_index, slice_range}
use Rattle.std.specs.Int.{bit_at, div_ceil}
use Rattle.std.specs.List.{range_with_len}
use Rattle.statement.specs.Rules.{State}

-- the key at a place of a row of keys of so many words
abbrev pub key_at : List ℕ → ℕ → ℕ → List ℕ
key_at keys words place = slice_range keys (place * words) (place * words + words)

-- how many words have a bit for each of n propositions
abbrev pub words_for : ℕ → ℕ
words_for n = div_ceil n 64

-- the bit of a proposition
abbrev pub key_bit : List ℕ → ℕ → ℕ
key_bit key p = bit_at (slice_index key (p / 64)) (p % 64)

abbrev pub has_bit : List ℕ → ℕ → Bool
has_bit key p = key_bit key p == 1

-- the state of the propositions below n whose bits are 1
abbrev pub state_of_bits : ℕ → List ℕ → State
state_of_bits n key = filter (has_bit key) (range_with_len 0 n)
