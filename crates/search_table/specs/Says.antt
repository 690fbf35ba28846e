-- This crate's own: what `run` promises does not rest on it.
-- What an entry says, and the word that keeps it.
use Rattle.std.specs.Prelude.{ℕ, ◌≡◌, ◌≢◌, ◌<◌, ◌≤◌, ◌/◌, ◌%◌}
use Rattle.search_table.specs.declared.entry.Entry.{Entry}
use Rattle.search_table.specs.declared.entry.Found.{Found}
use Rattle.search_table.specs.Worths.{AreBoundsOf}

-- the depth that stands for every depth
abbrev pub every_depth : ℕ
every_depth = 127

-- the worth is at least `lo` at one depth, and at most `hi` at another or at every depth
pub record Says (e : Entry) (worth : ℕ → ℕ) : Type 0 where
  pub lower : e.lo ≤ worth e.lo_depth
  pub upper : e.hi_depth ≢ every_depth → worth e.hi_depth ≤ e.hi
  pub lasting : e.hi_depth ≡ every_depth → (d : ℕ) → worth d ≤ e.hi

-- each number has seven bits
pub record IsSmall (e : Entry) : Type 0 where
  pub lo : e.lo < 128
  pub hi : e.hi < 128
  pub lo_depth : e.lo_depth < 128
  pub hi_depth : e.hi_depth < 128
  pub depth : e.depth < 128

-- the entry that a word keeps
abbrev pub entry_in : ℕ → Entry
entry_in word = record {
  lo = word % 128;
  hi = word / 128 % 128;
  lo_depth = word / 128 / 128 % 128;
  hi_depth = word / 128 / 128 / 128 % 128;
  depth = word / 128 / 128 / 128 / 128 % 128;
}

-- what was found is so
abbrev pub IsFound : Found → (ℕ → ℕ) → Type 0
IsFound f worth = AreBoundsOf worth f.depth f.bounds
