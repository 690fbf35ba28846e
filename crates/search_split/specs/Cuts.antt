-- This crate's own: what `run` promises does not rest on it.
-- How many threads take the parts of a search, level by level.
use Rattle.std.specs.Prelude.{◌≡◌, refl, ℕ, ◌*◌, ◌<◌, ◌≤◌, ◌==◌, Bool, List, [], ◌∷◌, length, slice_index, map, Option, Some, None}
use Rattle.std.specs.List.{join_with_byte, slice_split}
use Rattle.std.specs.Fmt.{decimal}
use Rattle.search_split.specs.declared.cut.Levels.{Levels}
use Rattle.search_split.specs.declared.cut.Levels.TheVariants.{One, Two, Three}

abbrev pub product : List ℕ → ℕ
product [] = 1
product (n ∷ ns) = n * product ns

-- how many levels a cut has at most, how many workers a level, and how many threads they come to
abbrev pub most_levels : ℕ
most_levels = 3

abbrev pub most_workers : ℕ
most_workers = 16

abbrev pub most_threads : ℕ
most_threads = 64

-- one to three levels of 1 to 16 workers, and at most 64 threads
pub record IsCut (levels : List ℕ) : Type 0 where
  pub some : 0 < length levels
  pub few : length levels ≤ most_levels
  pub each : (k : ℕ) → k < length levels → (1 ≤ slice_index levels k) × (slice_index levels k ≤ most_workers)
  pub threads : product levels ≤ most_threads

-- how many workers each level has, that of the root first
abbrev pub numbers_of : Levels → List ℕ
numbers_of (One n) = n ∷ []
numbers_of (Two n m) = n ∷ m ∷ []
numbers_of (Three n m k) = n ∷ m ∷ k ∷ []

-- and the levels of such a list
abbrev pub levels_of : List ℕ → Levels
levels_of [] = One 0
levels_of (n ∷ []) = One n
levels_of (n ∷ m ∷ []) = Two n m
levels_of (n ∷ m ∷ k ∷ more) = Three n m k

pub levels_of-numbers_of : (levels : Levels) → levels_of (numbers_of levels) ≡ levels
levels_of-numbers_of (One n) = refl
levels_of-numbers_of (Two n m) = refl
levels_of-numbers_of (Three n m k) = refl

-- the levels in decimal, joined by the letter x
abbrev pub cut_text : List ℕ → List ℕ
cut_text levels = join_with_byte 120 (map decimal levels)

abbrev pub is_x : ℕ → Bool
is_x byte = byte == 120

-- the parts of what is left of a text, if anything is
abbrev pub pieces_of : Option (List ℕ) → List (List ℕ)
pieces_of None = []
pieces_of (Some rest) = slice_split is_x rest
