-- This crate's own: what `run` promises does not rest on it.
-- What a search keeps of states.
use Rattle.std.specs.Prelude.{◌≡◌, ◌*◌, ℕ, List, [], ◌∷◌, length, vec_capacity}
use Rattle.std.specs.Arc.{arc_value}
use Rattle.game.specs.declared.game.Game.{Ghosts}
use Rattle.search_table.specs.Tables.{IsTableOf, table_capacity}
use Rattle.search_table.specs.Games.{game_of}
use Rattle.maximin.specs.declared.memory.Memory.{Memory}
use Rattle.maximin.specs.declared.memory.Positions.{Positions}
use Rattle.maximin.specs.declared.memory.Positions.TheVariants.{Nowhere, Own, Shared}

-- the capacities of a table of one's own, if there is one
abbrev pub position_capacities : {G P W M : Type 0} → Positions G P W M → List ℕ
position_capacities Nowhere = []
position_capacities (Own t) = table_capacity t
position_capacities (Shared _) = []

-- the capacities of what is kept in memory
abbrev pub memory_capacities : {G P W M : Type 0} → Memory G P W M → List ℕ
memory_capacities memory = vec_capacity memory.key ∷ vec_capacity memory.keys ∷ position_capacities memory.positions

module _ {G P W M : Type 0} (of : Ghosts G P W M) (game : G) where
  -- what is kept of states holds, for the role and the bound that a table is of
  abbrev pub ArePositionsOf : Positions G P W M → Type 0
  ArePositionsOf Nowhere = Unit {0}
  ArePositionsOf (Own t) = IsTableOf (of.rules game) (of.keyed game) t.role t.at t
  ArePositionsOf (Shared tables) = game_of (arc_value tables) ≡ game

  -- and there is room for keys
  pub record IsMemoryOf (memory : Memory G P W M) : Type 0 where
    pub positions : ArePositionsOf memory.positions
    pub key : length memory.key.items ≡ of.key_length game
    pub keys : length memory.keys.items ≡ 64 * of.key_length game
