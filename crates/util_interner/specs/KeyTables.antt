-- This crate's own: what `run` promises does not rest on it.
-- Keys in slots, each in the first slot of its walk that was free.
use Rattle.std.specs.Prelude.{
  ℕ,
  zero,
  suc,
  ◌≡◌,
  ◌≢◌,
  ◌<◌,
  ◌≤◌,
  ◌+◌,
  ◌-◌,
  ◌*◌,
  ◌/◌,
  ◌%◌,
  ◌^◌,
  ◌⊎◌,
  List,
  [],
  ◌∷◌,
  length,
  map,
  slice_index,
}
use Rattle.util_interner.specs.KeyLists.{key_at}
use Rattle.util_interner.specs.Hashes.{mixed, upper, bucket_in}
use Rattle.util_interner.specs.declared.key_table.KeyTable.{KeyTable}

-- a hash with the numbers of a key mixed into it
abbrev pub key_hash : ℕ → List ℕ → ℕ
key_hash hash [] = hash
key_hash hash (x ∷ xs) = key_hash (mixed hash x) xs

-- the bucket of a key, where there are so many
abbrev pub bucket_of : List ℕ → ℕ → ℕ
bucket_of key many = bucket_in (upper (key_hash 0 key)) many

-- how many bits of a number tell a walk its way: those of 32 bits and one more, as 0 stands behind the end
abbrev pub number_bits : ℕ
number_bits = 33

-- those of a byte and one more
abbrev pub byte_bits : ℕ
byte_bits = 9

-- what tells a walk its way: the hash, and then one more than each number
abbrev pub step_words : List ℕ → List ℕ
step_words key = key_hash 0 key ∷ map (λ x. x + 1) key

-- which of two ways the walk of a key goes on behind so many steps: a bit of its words, the lowest first
abbrev pub turn_of : ℕ → List ℕ → ℕ → ℕ
turn_of bits key step = slice_index (step_words key) (step / bits) / 2 ^ (step % bits) % 2

-- the slot at which walks with this turn go on behind a key
abbrev pub slot_behind : ℕ → ℕ → ℕ → ℕ
slot_behind buckets number turn = buckets + 2 * number + turn

-- the slot of a walk behind so many steps
abbrev pub slot_at : List ℕ → ℕ → (ℕ → ℕ) → ℕ → ℕ → ℕ
slot_at slots buckets turn start zero = start
slot_at slots buckets turn start (suc d) = slot_behind buckets (slice_index slots (slot_at slots buckets turn start d) - 1) (turn d)

-- one more than the number of the key in that slot
abbrev pub seen_at : List ℕ → ℕ → (ℕ → ℕ) → ℕ → ℕ → ℕ
seen_at slots buckets turn start d = slice_index slots (slot_at slots buckets turn start d)

-- Each slot is free or has a key, no two the same, and none that is older than the one before it.
pub record AreSlots (slots : List ℕ) (buckets n : ℕ) : Type 0 where
  pub many : length slots ≡ buckets + 2 * n
  pub within : (s : ℕ) → slice_index slots s ≤ n
  pub later : (v t : ℕ) → t < 2 → 0 < slice_index slots (slot_behind buckets v t) → v + 1 < slice_index slots (slot_behind buckets v t)
  pub once : (s t : ℕ) → 0 < slice_index slots s → slice_index slots s ≡ slice_index slots t → s ≡ t

-- Each slot of a walk, up to the one in which number i stands, has a key, and none behind i.
abbrev pub StandsOnWalk : List ℕ → ℕ → (ℕ → ℕ) → ℕ → ℕ → Type 0
StandsOnWalk slots buckets turn start i =
    (d : ℕ) → ((e : ℕ) → e < d → seen_at slots buckets turn start e ≢ i + 1)
    → (0 < seen_at slots buckets turn start d) × (seen_at slots buckets turn start d ≤ i + 1)

-- the keys stand on their walks
abbrev pub AreOnWalks : ℕ → List (List ℕ) → List ℕ → ℕ → Type 0
AreOnWalks bits keys slots buckets =
    (i : ℕ) → i < length keys → StandsOnWalk slots buckets (turn_of bits (key_at keys i)) (bucket_of (key_at keys i) buckets) i

-- the keys are in the slots of a table
abbrev pub AreTabled : ℕ → List (List ℕ) → KeyTable → Type 0
AreTabled bits keys t = AreSlots t.slots.items t.buckets (length keys) × AreOnWalks bits keys t.slots.items t.buckets

abbrev pub KeysKept : List (List ℕ) → KeyTable → Type 0
KeysKept keys t = AreTabled number_bits keys t

abbrev pub NamesKept : List (List ℕ) → KeyTable → Type 0
NamesKept names t = AreTabled byte_bits names t

-- Behind some steps past keys of other numbers the walk is at a slot that is free or has the one that is wanted.
pub record EndsBehind (slots : List ℕ) (buckets : ℕ) (turn : ℕ → ℕ) (start wanted slot d : ℕ) : Type 0 where
  pub here : slot ≡ slot_at slots buckets turn start d
  pub inside : slot < length slots
  pub passed : (e : ℕ) → e < d → (0 < seen_at slots buckets turn start e) × (seen_at slots buckets turn start e ≢ wanted)
  pub ends : (slice_index slots slot ≡ 0) ⊎ (slice_index slots slot ≡ wanted)

abbrev pub EndsAt : List ℕ → ℕ → (ℕ → ℕ) → ℕ → ℕ → ℕ → Type 0
EndsAt slots buckets turn start wanted slot = (d : ℕ) × EndsBehind slots buckets turn start wanted slot d
