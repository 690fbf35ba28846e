-- This crate's own: what `run` promises does not rest on it.
-- What was read and is not used yet, and what was taken of it into a room.
use Rattle.std.specs.Prelude.{ℕ, ◌≡◌, ◌<◌, ◌≤◌, List, Option, length, take, slice_range}
use Rattle.std.specs.Io.KnownBytes.{prepend_known}
use Rattle.program_requests.specs.declared.feed.Feed.{Feed}
use Rattle.program_requests.specs.declared.gathered.Gathered.{Gathered}

-- the bytes that were read and are not used yet
abbrev pub left_in : Feed → List ℕ
left_in f = slice_range f.room.items f.from f.to

pub record IsFeed (f : Feed) : Type 0 where
  pub order : f.from ≤ f.to
  pub within : f.to ≤ length f.room.items
  pub some : 0 < length f.room.items

-- the bytes to come, where it is known what the reader gives
abbrev pub ahead : Feed → Option (List ℕ) → Option (List ℕ)
ahead f remaining = prepend_known (left_in f) remaining

-- of these bytes the room has as many as it has place for
pub record HasFront (g : Gathered) (bytes : List ℕ) : Type 0 where
  pub within : g.filled ≤ length g.room.items
  pub same : take g.filled g.room.items ≡ take (length g.room.items) bytes
