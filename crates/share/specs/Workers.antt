-- This crate's own: what `run` promises does not rest on it.
-- What a worker brings to a state, and what it takes away.
use Rattle.std.specs.Prelude.{◌≡◌, ℕ}
use Rattle.game.specs.declared.game.Game.{Ghosts}
use Rattle.game.specs.declared.question.Question.{Question}
use Rattle.share.specs.Above.{View, AtLeast}
use Rattle.share.specs.Desk.{IsDeskOf, IsDeskFor}
use Rattle.share.specs.Opening.{margin_of}
use Rattle.share.specs.Searches.{IsAnswered, IsValued}
use Rattle.share.specs.declared.bounds.Bounds.{Bounds}
use Rattle.share.specs.declared.opening.Opening.{Opening}
use Rattle.share.specs.declared.station.Found.{Found}
use Rattle.share.specs.declared.worker.Answered.{Answered}
use Rattle.share.specs.declared.worker.Worker.{Worker}

module _ {G P W M A : Type 0} (of : Ghosts G P W M) (view : A → View) (game : G) where
  -- the first of so many levels of workers, who can look so many turns ahead and has so many shares of each board above
  pub record IsReady (depth levels need : ℕ) (w : Worker A G P W M) : Type 0 where
    pub desk : IsDeskFor of game depth levels w.desk
    pub shares : AtLeast need (view w.above).shares

  -- it is given back with nothing done
  pub record IsGivenBack (levels : ℕ) (w r : Worker A G P W M) : Type 0 where
    pub above : view r.above ≡ view w.above
    pub desk : IsDeskOf of game w.desk.depth levels r.desk

  -- a board that was opened so answers this of the state
  pub record IsAnswerOf (from : P) (asked : Question) (levels : ℕ) (opening : Opening) (w : Worker A G P W M) (r : Answered A G P W M) : Type 0 where
    pub answer : IsAnswered (of.rules game) asked.role asked.depth asked.at (of.state game from) opening.bounds.low opening.bounds.high
        (margin_of opening) (view w.above) (view r.worker.above) r.value r.first
    pub desk : IsDeskOf of game w.desk.depth levels r.worker.desk

  -- the state was found to be worth this between the bounds
  pub record IsFoundOf (from : P) (asked : Question) (levels : ℕ) (bounds : Bounds) (w : Worker A G P W M) (r : Found × Worker A G P W M) : Type 0
    where
      pub valued : IsValued (of.rules game) asked.role asked.depth asked.at (of.state game from) bounds.low bounds.high (view w.above)
          (view r.1.above) r.0.worth r.0.alone
      pub desk : IsDeskOf of game w.desk.depth levels r.1.desk
