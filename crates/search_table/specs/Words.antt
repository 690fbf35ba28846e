-- This crate's own: what `run` promises does not rest on it.
-- How many words hints have. What stands in them is said nowhere.
use Rattle.std.specs.Prelude.{ℕ, length}
use Rattle.search_table.specs.declared.history.SharedHistory.{SharedHistory}
use Rattle.search_table.specs.declared.marks.Marks.{Marks}

abbrev pub history_roles : SharedHistory → ℕ
history_roles history = length history.starts.items

abbrev pub history_words : SharedHistory → ℕ
history_words history = length history.counts.items

abbrev pub mark_words : Marks → ℕ
mark_words marks = length marks.places.items
