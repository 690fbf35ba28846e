-- This crate's own: what `run` promises does not rest on it.
-- A room that shares nothing.
use Rattle.std.specs.Prelude.{◌≡◌, ℕ, ◌*◌, Option, None, Some, IsSomeAnd, All, length}
use Rattle.game.specs.declared.game.Game.{Ghosts}
use Rattle.search_table.specs.Tables.{IsTableOf}
use Rattle.search_table.specs.declared.position_table.PositionTable.{PositionTable}
use Rattle.maximin.specs.declared.plain.PlainParts.{PlainParts}
use Rattle.maximin.specs.declared.plain.PlainRoom.{PlainRoom}
use Rattle.maximin.specs.Level.{IsLevelOf}

-- how many turns ahead the parts of a room serve
abbrev pub parts_depth : {G P W M : Type 0} → Option (PlainParts G P W M) → ℕ
parts_depth None = 0
parts_depth (Some parts) = length parts.levels.items

-- how many turns ahead the room serves
abbrev pub plain_depth : {G P W M : Type 0} → PlainRoom G P W M → ℕ
plain_depth room = parts_depth room.parts

module _ {G P W M : Type 0} (of : Ghosts G P W M) (game : G) where
  -- what the table keeps holds, if there is one
  abbrev pub IsOwnOf : Option PositionTable → Type 0
  IsOwnOf None = Unit {0}
  IsOwnOf (Some t) = IsTableOf (of.rules game) (of.keyed game) t.role t.at t

  -- what a room for the game is made of
  pub record ArePartsOf (parts : PlainParts G P W M) : Type 0 where
    pub wide : of.fits_wide game parts.wide
    pub table : IsOwnOf parts.table
    pub key : length parts.key.items ≡ of.key_length game
    pub keys : length parts.keys.items ≡ 64 * of.key_length game
    pub levels : All (IsLevelOf of game) parts.levels.items

  -- a room for the game
  abbrev pub IsPlainOf : PlainRoom G P W M → Type 0
  IsPlainOf room = IsSomeAnd room.parts ArePartsOf
