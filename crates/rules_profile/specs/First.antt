-- This crate's own: what `run` promises does not rest on it.
-- The number of the first item that fails a test.
use Rattle.std.specs.Prelude.{ℕ, Bool, List, Option, Some, None, ◌≡◌, MatchOption}
use Rattle.statement.specs.Tree.{Tree}
use Rattle.statement.specs.Profile.{ItemFault, first_failing}

-- the first item that fails has this number, or there is none; items are numbered from 1
abbrev pub IsFirstFailing : (ℕ → ItemFault) → (Tree → Bool) → List Tree → Option ℕ → Type 0
IsFirstFailing fault fails items found =
    MatchOption found (first_failing fault fails 1 items ≡ None) (λ n. first_failing fault fails 1 items ≡ Some (fault n))
