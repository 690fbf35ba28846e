-- This crate's own: what `run` promises does not rest on it.
-- Which game tables are of.
use Rattle.search_table.specs.declared.shared_table.SharedTable.{SharedTable}

-- the game that they were made for
abbrev pub game_of : {G P W M : Type 0} → SharedTable G P W M → G
game_of tables = tables.table.shared.key
