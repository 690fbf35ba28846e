-- This crate's own: what `run` promises does not rest on it.
-- The marks and kinds of a ground.
use Rattle.std.specs.Prelude.{ℕ, ◌≡◌, Bool, List, map}
use Rattle.statement.specs.Clause.{Alternative}
use Rattle.statement.specs.declared.kind.Kind.{Kind}
use Rattle.statement.specs.Kinds.{kind_of}
use Rattle.statement.specs.Listing.{base_list, listing}
use Rattle.statement.specs.GoalsAndMoves as play
use Rattle.statement.specs.Kept.{Kept, numbered}

-- the marks and kinds are those of the rules, and so many heads have no effect
pub record ArePartsOf (rules : List Alternative) (starts : List Bool) (kinds : List Kind) (dropped : ℕ) : Type 0 where
  pub starts_are : starts ≡ map (play.starts rules) (base_list rules)
  pub kinds_are : kinds ≡ map (kind_of rules) (listing rules).atoms
  pub dropped_is : dropped ≡ play.dropped rules

-- the instances are those of the rules
abbrev pub AreKeptOf : List Alternative → List Kept → Type 0
AreKeptOf rules kept = kept ≡ map (numbered rules) (listing rules).kept
