-- This crate's own: what `run` promises does not rest on it.
-- Findings, each of an item behind those of the ones before.
use Rattle.std.specs.Prelude.{ℕ, ◌≡◌, ◌<◌, List}
use Rattle.std.specs.List.{All, AllPairs}
use Rattle.statement.specs.Tree.{Tree}
use Rattle.statement.specs.Clause.{Alternative}
use Rattle.statement.specs.Items.{alternatives}
use Rattle.diagnose_lint.specs.declared.dropped_finding.Dropped.{Dropped}
use Rattle.diagnose_lint.specs.Effects.{IsTrueDropped, IsBefore}
use Rattle.diagnose_lint.specs.Owners.{AreOwners}

-- it is true of all items of these rules, of whose alternatives these are the owners
abbrev pub IsTrueBy : List Alternative → List ℕ → Dropped → Type 0
IsTrueBy rules owners d = (ts : List Tree) → AreOwners ts owners → rules ≡ alternatives ts → IsTrueDropped ts d

-- each is true, and they stand in the order of their items, before the next item
pub record AreFindings (rules : List Alternative) (owners : List ℕ) (next : ℕ) (found : List Dropped) : Type 0 where
  pub each : All (IsTrueBy rules owners) found
  pub once : AllPairs IsBefore found
  pub below : All (λ (d : Dropped). d.place < next) found
