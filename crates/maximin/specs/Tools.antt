-- This crate's own: what `run` promises does not rest on it.
-- What a search works with.
use Rattle.std.specs.Prelude.{◌≡◌, ℕ, ℤ, pos, negsuc, ◌<◌, ◌≤◌, ◌<ℤ◌, ◌≤ℤ◌, List, ◌++◌, All, length}
use Rattle.game.specs.declared.game.Game.{Ghosts}
use Rattle.maximin.specs.declared.level.Level.{Level}
use Rattle.maximin.specs.declared.tools.Tools.{Tools}
use Rattle.maximin.specs.Level.{IsLevelOf, all_capacities}
use Rattle.maximin.specs.Memory.{IsMemoryOf, memory_capacities}

-- bounds that a value can be searched for between: no wider than 1 below and above all values, but for the lower end at the very start
pub record IsWindow (a b : ℤ) : Type 0 where
  pub low : negsuc 1 ≤ℤ a
  pub order : a <ℤ b
  pub high : b ≤ℤ pos 101

module _ {G P W M : Type 0} (of : Ghosts G P W M) (game : G) where
  -- the capacities of what all levels share
  abbrev pub tools_capacities : Tools G P W M → List ℕ
  tools_capacities tools = memory_capacities tools.memory ++ of.wide_capacities game tools.wide

  -- what all levels share
  pub record AreToolsOf (tools : Tools G P W M) : Type 0 where
    pub wide : of.fits_wide game tools.wide
    pub memory : IsMemoryOf of game tools.memory

  -- what all levels share serves as before, and has grown nowhere
  pub record AreToolsKept (old new : Tools G P W M) : Type 0 where
    pub wide : of.fits_wide game new.wide
    pub memory : IsMemoryOf of game new.memory
    pub capacities : tools_capacities new ≡ tools_capacities old

  -- what a search for this role that looks so many turns ahead works with
  pub record AreFit (r depth : ℕ) (tools : Tools G P W M) (all : List (Level P M)) : Type 0 where
    pub role : r < (of.rules game).roles
    pub deep : depth ≤ length all
    pub wide : of.fits_wide game tools.wide
    pub memory : IsMemoryOf of game tools.memory
    pub levels : All (IsLevelOf of game) all

  -- it serves as before, and has grown nowhere
  pub record AreKept (old : Tools G P W M) (all : List (Level P M)) (new : Tools G P W M) (new_all : List (Level P M)) : Type 0 where
    pub wide : of.fits_wide game new.wide
    pub memory : IsMemoryOf of game new.memory
    pub levels : All (IsLevelOf of game) new_all
    pub of_tools : tools_capacities new ≡ tools_capacities old
    pub of_levels : all_capacities of game new_all ≡ all_capacities of game all
