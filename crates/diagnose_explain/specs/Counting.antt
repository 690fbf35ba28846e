-- This crate's own: what `run` promises does not rest on it.
-- Up to which number alternatives are counted.
use Rattle.std.specs.Prelude.{ℕ}

-- the number that stands for all greater ones
abbrev pub most_counted : ℕ
most_counted = 1000000000
