-- This crate's own: what `run` promises does not rest on it.
-- The lines of a text, and the bytes that begin a character.
use Rattle.std.specs.Prelude.{ℕ, suc, Bool, not, ◌&&◌, ◌==◌, nat_le, ◌≤◌, ◌<◌, ◌≡◌, ◌≢◌, List, length, slice_index}

abbrev pub is_line_feed : ℕ → Bool
is_line_feed b = b == 10

-- every byte but those from 128 to 191, which go on with a character of several bytes
abbrev pub begins_character : ℕ → Bool
begins_character b = not (nat_le 128 b && nat_le b 191)

-- the line in which offset o stands begins at `start`: with the text, or behind a line feed
pub record IsLineStart (text : List ℕ) (o start : ℕ) : Type 0 where
  pub before : start ≤ o
  pub behind : (k : ℕ) → suc k ≡ start → slice_index text k ≡ 10
  pub together : (k : ℕ) → start ≤ k → k < o → slice_index text k ≢ 10

-- and it ends at `end`: with the text, or before a line feed
pub record IsLineEnd (text : List ℕ) (o end : ℕ) : Type 0 where
  pub after : o ≤ end
  pub within : end ≤ length text
  pub ends : end < length text → slice_index text end ≡ 10
  pub together : (k : ℕ) → o ≤ k → k < end → slice_index text k ≢ 10
