-- This crate's own: what `run` promises does not rest on it.
-- Which bytes a run reads.
use Rattle.std.specs.Prelude.{ℕ, ◌≤◌, ◌<◌, List, Option, length}
use Rattle.std.specs.Io.KnownBytes.{Consumes, IsAtEnd}
use Rattle.statement.specs.Input.{read_limit}

-- what was read: a front of the input within the limit, and less than the limit only where the input ends
pub record IsReadFrom (old left : Option (List ℕ)) (bytes : List ℕ) : Type 0 where
  pub within : length bytes ≤ read_limit
  pub consumed : Consumes old left bytes
  pub ended : length bytes < read_limit → IsAtEnd left
