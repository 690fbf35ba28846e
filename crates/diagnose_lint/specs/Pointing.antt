-- This crate's own: what `run` promises does not rest on it.
-- Where a pointer into the text of items stands.
use Rattle.std.specs.Prelude.{ℕ, ◌≡◌, ◌≤◌, List, length, min, drop, take}
use Rattle.statement.specs.Tree.{Tree, trees_of}
use Rattle.statement.specs.Reading.{Reads}
use Rattle.diagnose_places.specs.declared.place.Place.{Place}
use Rattle.diagnose_places.specs.Places.{IsPlace}
use Rattle.diagnose_places.specs.Standing.{BeginsAt}
use Rattle.diagnose_places.specs.Walking.{walk_text, IsWalk, IsWordBehind}
use Rattle.diagnose_lint.specs.declared.pointer.Pointer.{Pointer}

-- its walk is one over the trees, and the last place is that of its offset
pub record IsPointer (ts : List Tree) (p : Pointer) : Type 0 where
  pub walk : IsWalk ts p.walk
  pub same : walk_text p.walk ≡ p.text.now
  pub within : p.offset ≤ length p.text.now
  pub placed : IsPlace p.text.now p.offset p.place

-- the place is that of the beginning of the item behind n others, where the text is read as the items
pub record IsItemPlace (text : List ℕ) (ts : List Tree) (n : ℕ) (place : Place) : Type 0 where
  pub start : ℕ
  pub begins : Reads text (trees_of ts) → BeginsAt text (drop n ts) start
  pub placed : IsPlace text (min start (length text)) place

-- the place is that of the name behind n items, where the text is read as the items
pub record IsNamePlace (text : List ℕ) (ts : List Tree) (n : ℕ) (w : List ℕ) (place : Place) : Type 0 where
  pub start : ℕ
  pub stands : Reads text (trees_of ts) → IsWordBehind text (take n ts) w start
  pub placed : IsPlace text (min start (length text)) place
