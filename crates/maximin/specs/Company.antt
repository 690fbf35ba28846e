-- This crate's own: what `run` promises does not rest on it.
-- Which game workers share the search of.
use Rattle.std.specs.Arc.{arc_value}
use Rattle.search_table.specs.Games.{game_of}
use Rattle.maximin.specs.declared.company.Company.{Company}

-- the game that their tables were made for
abbrev pub company_game : {G P W M : Type 0} → Company G P W M → G
company_game company = game_of (arc_value company.tables)
