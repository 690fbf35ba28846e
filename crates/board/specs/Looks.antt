-- This crate's own: what `run` promises does not rest on it.
-- What a seat reads of a board, and what it leaves there.
use Rattle.std.specs.Prelude.{◌≡◌, ℕ, ◌+◌, ◌<◌, ◌≤◌, min, max, ℤ, pos, negsuc, ◌<ℤ◌, ◌≤ℤ◌, Bool, true, []}
use Rattle.board.specs.Weights.{times}
use Rattle.board.specs.Books.{seen, best_read, upper_read, all_shares}
use Rattle.board.specs.Boards.{kept}
use Rattle.board.specs.Plays.{BestIn, BestUnder, UpperIn, UpperOver}
use Rattle.board.specs.Windows.{IsNarrower}
use Rattle.board.specs.Seats.{Place, book, IsSeatOf, IsPlaceOf, IsTaskOf, Settles}
use Rattle.board.specs.declared.book.Setup.{Setup}
use Rattle.board.specs.declared.book.Book.{Book}
use Rattle.board.specs.declared.parts.Board.{Board}
use Rattle.board.specs.declared.parts.Seat.{Seat}
use Rattle.board.specs.declared.parts.Task.{Task}

-- The book k has become w where the best bound and the upper bound of move i were read. Where results come from no narrower
-- windows, the values bound what was read from the other side.
pub record HasLooked (value : ℕ → ℕ → ℕ) (narrows : Bool) (o : Setup) (i : ℕ) (k w : Book) : Type 0 where
  pub read : w ≡ upper_read i (seen w i) (best_read w.best k)
  pub narrower : IsNarrower k w
  pub greatest : BestIn k w.best
  pub upper : UpperIn k i (seen w i)
  pub under : BestUnder value narrows o w.best
  pub over : UpperOver value narrows o i (seen w i)

-- these are the bounds for a task of move i, as the seat knows them
pub record AreBoundsOf (o : Setup) (i : ℕ) (k : Book) (b : ℤ × ℤ) : Type 0 where
  pub low : kept b.0 + o.margin ≡ k.best
  pub high : kept b.1 ≡ seen k i
  pub low_range : (negsuc 1 ≤ℤ b.0) × (b.0 ≤ℤ pos 101)
  pub high_range : (negsuc 1 ≤ℤ b.1) × (b.1 ≤ℤ pos 101)

-- and something lies between them
pub record AreOpenBounds (o : Setup) (i : ℕ) (k : Book) (b : ℤ × ℤ) : Type 0 where
  pub bounds : AreBoundsOf o i k b
  pub order : (kept b.0 < kept b.1) × (b.0 <ℤ b.1)

-- task x was counted after move i was lowered to r at most, by a search that these bounds cut too
pub record HasReported (o : Setup) (i x : ℕ) (r lo hi : ℤ) (k w : Book) : Type 0 where
  pub settled : Settles k x w
  pub lowered : seen w i ≤ kept r
  pub low : w.low ≡ max k.low (kept lo + o.margin)
  pub high : w.high ≡ min k.high (kept hi)

-- a result and the bounds of the search, all from -2 to 101
pub record AreInRange (r lo hi : ℤ) : Type 0 where
  pub result : (negsuc 1 ≤ℤ r) × (r ≤ℤ pos 101)
  pub low : (negsuc 1 ≤ℤ lo) × (lo ≤ℤ pos 101)
  pub high : (negsuc 1 ≤ℤ hi) × (hi ≤ℤ pos 101)

module _ {V : Type 0} where
  -- the task is in the hand of the seat at this place
  pub record IsHeldAt (b : Board V) (t : Task V) (p : Place) : Type 0 where
    pub place : IsPlaceOf b p
    pub task : IsTaskOf b t
    pub held : 0 < times t.number p.me.0.hand

  -- all seats were joined into this one, which was told that all tasks are handed out, and has none in hand
  pub record IsLastSeat (b : Board V) (s : Seat V) : Type 0 where
    pub seat : IsSeatOf b s
    pub shares : (book s).shares ≡ all_shares
    pub marked : (book s).marked ≡ true
    pub hand : (book s).hand ≡ []
