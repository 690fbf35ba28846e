-- This crate's own: what `run` promises does not rest on it.
-- Hashes of numbers, and their buckets. Nothing is asked of a hash but that equal numbers have equal hashes.
use Rattle.std.specs.Prelude.{ℕ, ◌+◌, ◌-◌, ◌*◌, ◌/◌, ◌%◌, ◌^◌, min}

-- a number mixed into a hash
abbrev pub mixed : ℕ → ℕ → ℕ
mixed hash x = (hash + x) % 2 ^ 64 * 11400714819323198485 % 2 ^ 64

-- the upper half of the bits of a hash
abbrev pub upper : ℕ → ℕ
upper hash = hash / 4294967296

-- the bucket of the upper half of a hash, where there are so many
abbrev pub bucket_in : ℕ → ℕ → ℕ
bucket_in half many = min (half * many % 2 ^ 64 / 4294967296) (many - 1)
