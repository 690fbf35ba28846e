-- This crate's own: what `run` promises does not rest on it.
-- The memory of searches that tell whether a value is settled.
use Rattle.std.specs.Prelude.{ℕ, ◌≡◌, Option, Some, None}
use Rattle.statement.specs.declared.at_bound.AtBound.{AtBound}
use Rattle.statement.specs.declared.at_bound.AtBound.TheVariants.{Zero}
use Rattle.game.specs.declared.game.Game.{Ghosts}
use Rattle.maximin.specs.declared.room.Room.{Room}
use Rattle.maximin.specs.Room.{IsRoomFor}
use Rattle.program_searches.specs.declared.settling.Settling.{Settling}

module _ {G P W M : Type 0} (of : Ghosts G P W M) (game : G) (role depth : ℕ) (at : AtBound) where
  -- a room for searches of so many turns, or none where unfinished play is worth nothing
  abbrev pub IsLeastFor : Option (Room G P W M) → Type 0
  IsLeastFor None = at ≡ Zero
  IsLeastFor (Some room) = IsRoomFor of game role depth room

  -- rooms for searches of so many turns
  pub record IsSettlingFor (settling : Settling G P W M) : Type 0 where
    pub least : IsLeastFor settling.least
    pub most : IsRoomFor of game role depth settling.most
