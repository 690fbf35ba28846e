-- This crate's own: what `run` promises does not rest on it.
-- How many keys the walk of a key passes.
use Rattle.std.specs.Prelude.{ℕ, ◌≢◌, ◌<◌, ◌≤◌, ◌+◌, ◌-◌, ◌*◌, ◌^◌, List, length, slice_index}
use Rattle.util_interner.specs.KeyLists.{key_at}
use Rattle.util_interner.specs.KeyTables.{turn_of, bucket_of, seen_at, AreTabled}
use Rattle.util_interner.specs.declared.key_table.KeyTable.{KeyTable}

-- one more than each number has so many bits at most
abbrev pub AreNarrow : ℕ → List ℕ → Type 0
AreNarrow bits key = (p : ℕ) → p < length key → slice_index key p + 1 < 2 ^ bits

-- so many steps of the walk of a key pass other keys
abbrev pub PassesOthers : ℕ → List (List ℕ) → KeyTable → List ℕ → ℕ → Type 0
PassesOthers bits keys t key steps =
    (e : ℕ) → e < steps
    → (0 < seen_at t.slots.items t.buckets (turn_of bits key) (bucket_of key t.buckets) e)
    × (key_at keys (seen_at t.slots.items t.buckets (turn_of bits key) (bucket_of key t.buckets) e - 1) ≢ key)

-- In a table of keys with numbers of so many bits each walk passes at most so many other keys: one for each bit of the hash
-- that is looked at and of each number, and for those that tell where the key ends.
abbrev pub AreWalksShort : ℕ → Type 0
AreWalksShort bits =
    (keys : List (List ℕ)) (t : KeyTable) → AreTabled bits keys t → 0 < t.buckets
    → ((i : ℕ) → i < length keys → AreNarrow bits (key_at keys i))
    → (key : List ℕ) → AreNarrow bits key → (steps : ℕ) → PassesOthers bits keys t key steps → steps ≤ bits * (length key + 2)
