-- This crate's own: what `run` promises does not rest on it.
-- The memory of a search that stays from one question to the next.
use Rattle.std.specs.Prelude.{ℕ, ◌≤◌}
use Rattle.game.specs.declared.game.Game.{Ghosts}
use Rattle.maximin.specs.Room.{room_depth}
use Rattle.program_searches.specs.Play.{IsPlayOf}
use Rattle.program_searches.specs.declared.kept_search.KeptSearch.{KeptSearch}

module _ {G P W M : Type 0} (of : Ghosts G P W M) (game : G) where
  -- memory of the game, which looks as far ahead as it was made for
  pub record IsKeptSearch (kept : KeptSearch G P W M) : Type 0 where
    pub play : IsPlayOf of game kept.play
    pub deep : kept.made_for.depth ≤ room_depth kept.play.room

  -- memory of the game for questions of so many turns
  pub record IsSearchFor (depth : ℕ) (kept : KeptSearch G P W M) : Type 0 where
    pub stays : IsKeptSearch kept
    pub deep : depth ≤ kept.made_for.depth
