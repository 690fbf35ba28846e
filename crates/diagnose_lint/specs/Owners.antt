-- This crate's own: what `run` promises does not rest on it.
-- Which item an alternative is one of.
use Rattle.std.specs.Prelude.{ℕ, ◌<◌, List, length, get_or}
use Rattle.statement.specs.Tree.{Tree}
use Rattle.diagnose_lint.specs.Effects.{IsOfItem}

-- for each of the first alternatives the place of its item
abbrev pub AreOwners : List Tree → List ℕ → Type 0
AreOwners ts owners = (n d : ℕ) → n < length owners → IsOfItem ts (get_or owners n d) n
