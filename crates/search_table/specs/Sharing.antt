-- This crate's own: what `run` promises does not rest on it.
-- The rule of tables that several threads share.
use Rattle.std.specs.Prelude.{◌≡◌, ℕ, ◌<◌, [], ◌∷◌, length, slice_index}
use mathlib.Core.Option.{some}
use lib.ListN.{get_elem?}
use Rattle.atomic_table.specs.Table.{State, Me}
use Rattle.game.specs.declared.game.Game.{Ghosts}
use Rattle.search_table.specs.Tables.{IsTableOf}
use Rattle.search_table.specs.declared.position_table.PositionTable.{PositionTable}

module _ {S V : Type 0} where
  -- each value has a word, and where that is 0 the value is at home and right
  pub record AreGuarded (right : S → Type 0) (s : State S V) : Type 0 where
    pub sized : length s.words ≡ length s.homes
    pub home : (i : ℕ) → i < length s.words → slice_index s.words i ≡ 0 → (x : S) × (get_elem? s.homes i ≡ some (some x)) × right x

  -- the seat has the value of this place and no other, and it is right
  abbrev pub Holds : (S → Type 0) → ℕ → Me S V → Type 0
  Holds right i me = (x : S) × (me.1 ≡ (i, x) ∷ []) × right x

module _ {G P W M : Type 0} (of : Ghosts G P W M) (game : G) where
  -- the table is for a role and a bound of its own, and all that it keeps of the game's states is so
  abbrev pub IsRight : PositionTable → Type 0
  IsRight t = IsTableOf (of.rules game) (of.keyed game) t.role t.at t
