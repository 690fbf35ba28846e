-- This crate's own: what `run` promises does not rest on it.
-- What a result of a window tells, and what narrower windows leave of it.
use Rattle.std.specs.Prelude.{◌≡◌, ℕ, ◌+◌, ◌-◌, ◌≤◌, min, max}
use Rattle.board.specs.Books.{seen, first_book, right_part, joined}
use Rattle.board.specs.declared.book.Setup.{Setup}
use Rattle.board.specs.declared.book.Book.{Book}

-- r is a right result for the value v, if what lies at low or below, or at high or above, need not be told apart
abbrev pub Answers : ℕ → ℕ → ℕ → ℕ → Type 0
Answers v low high r = (min v high ≤ r) × (r ≤ max v low)

-- what the book k knew has only become narrower in w
pub record IsNarrower (k w : Book) : Type 0 where
  pub best : k.best ≤ w.best
  pub uppers : (i : ℕ) → seen w i ≤ seen k i

-- a result of an older window of move i, or of one that was cut by other bounds too, is one of the window as it is known
-- now; and a window that was empty stays empty
abbrev pub OlderWindowsServe : Type 0
OlderWindowsServe = (k w : Book) (margin i v r : ℕ) → IsNarrower k w
    → (Answers v (k.best - margin) (seen k i) r → Answers v (w.best - margin) (seen w i) r)
    × ((lo hi : ℕ) → Answers v (max lo (k.best - margin)) (min hi (seen k i)) r → Answers v (max lo (w.best - margin)) (min hi (seen w i)) r)
    × (seen k i + margin ≤ k.best → seen w i + margin ≤ w.best)

-- the results in the book l, of an inner board, were found with bounds no narrower than low and high, or than those
-- that it was opened with
abbrev pub BoundsWithin : ℕ → ℕ → Setup → Book → Type 0
BoundsWithin low high inner l = (l.low ≤ max inner.low low) × (min inner.high high ≤ l.high)

-- So it is at the opening. It stays so where low and high become narrower, where a result is reported that was cut by
-- them, for the new seat of a split, and where two seats are joined.
abbrev pub InnerBoundsStay : Type 0
InnerBoundsStay = (inner : Setup) (low high : ℕ)
    → BoundsWithin low high inner (first_book inner)
    × ((k : Book) (low' high' : ℕ) → low ≤ low' → high' ≤ high → BoundsWithin low high inner k → BoundsWithin low' high' inner k)
    × ((k l : Book) → l.low ≡ max k.low low → l.high ≡ min k.high high → BoundsWithin low high inner k → BoundsWithin low high inner l)
    × ((k : Book) → k.setup ≡ inner → BoundsWithin low high inner (right_part k))
    × ((k l : Book) → BoundsWithin low high inner k → BoundsWithin low high inner l → BoundsWithin low high inner (joined k l))

-- An inner board was opened for a task of the value v, and low and high are the narrowest bounds that its workers saw.
-- What it answers is a result for the task in each window that is no wider than those bounds and the opening.
abbrev pub InnerAnswersServe : Type 0
InnerAnswersServe = (inner : Setup) (l : Book) (v low high low' high' r : ℕ) → BoundsWithin low high inner l
    → low ≤ low' → high' ≤ high → inner.low ≤ low' → high' ≤ inner.high → Answers v l.low l.high r → Answers v low' high' r
