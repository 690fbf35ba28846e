-- This crate's own: what `run` promises does not rest on it.
-- What is told of heads without effect.
use Rattle.std.specs.Prelude.{ℕ, List, ◌++◌, ◌≡◌, ◌⊎◌, codes, decimal}
use Rattle.statement.specs.Tree.{Tree}
use Rattle.rules_clauses.specs.Numbers.{BeginsWith}
use Rattle.diagnose_places.specs.declared.place.Place.{Place}
use Rattle.diagnose_lint.specs.Pointing.{IsItemPlace}
use Rattle.diagnose_lint.specs.declared.dropped_finding.Dropped.{Dropped}

-- what stands before a place, its line and its column, and what stands behind it
abbrev pub place_start : List ℕ → Place → List ℕ → List ℕ
place_start before place behind = before ++ decimal place.line ++ codes ":" ++ decimal place.column ++ codes ": " ++ behind

-- nothing is told of it; or behind what is there the place of its item, between what stands before and behind it, and then more
abbrev pub TellsOf : List ℕ → List Tree → List ℕ → List ℕ → List ℕ → Dropped → List ℕ → Type 0
TellsOf text ts before behind old d new =
    (new ≡ old) ⊎ ((place : Place) × IsItemPlace text ts d.place place × BeginsWith (old ++ place_start before place behind) new)
