-- This crate's own: what `run` promises does not rest on it.
-- Replies that are written.
use Rattle.std.specs.Prelude.{◌≡◌, ℕ, Option, Some}
use Rattle.smallvec.specs.SmallVec.{SmallVec}
use Rattle.statement.specs.Rules.{Turn}

-- there is a reply, and it is written over a joint move, in the memory of that
pub record IsWritten (reply : Option Turn) (old new : SmallVec ℕ) : Type 0 where
  pub turn : reply ≡ Some new.items
  pub capacity : new.capacity ≡ old.capacity
