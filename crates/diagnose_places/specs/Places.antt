-- This crate's own: what `run` promises does not rest on it.
-- Lines and columns, counted from 1.
use Rattle.std.specs.Prelude.{ℕ, suc, ◌≡◌, cond, List, take, slice_range}
use Rattle.std.specs.List.{count_by}
use Rattle.diagnose_places.specs.Lines.{is_line_feed, begins_character, IsLineStart}
use Rattle.diagnose_places.specs.declared.place.Place.{Place}

-- how many line feeds stand before the offset, and how many characters begin in its line before it
pub record IsPlace (text : List ℕ) (o : ℕ) (place : Place) : Type 0 where
  pub line : place.line ≡ suc (count_by is_line_feed (take o text))
  pub start : ℕ
  pub in_line : IsLineStart text o start
  pub column : place.column ≡ suc (count_by begins_character (slice_range text start o))

-- one byte on: in the next line behind a line feed, and a column further where a character begins
abbrev pub after : Place → ℕ → Place
after place b =
    cond (is_line_feed b) (record { line = suc place.line; column = 1 })
    (cond (begins_character b) (record { line = place.line; column = suc place.column }) place)
