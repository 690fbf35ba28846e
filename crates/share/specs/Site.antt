-- This crate's own: what `run` promises does not rest on it.
use Rattle.std.specs.Prelude.{◌≡◌, ℕ, ℤ, Bool, true, replicate}
use Rattle.game.specs.declared.game.Game.{Ghosts}
use Rattle.game.specs.declared.question.Question.{Question}
use Rattle.statement.specs.declared.at_bound.AtBound.{AtBound}
use Rattle.statement.specs.Rules.{Rules, State}
use Rattle.board.specs.Books.{setup}
use Rattle.board.specs.Seats.{setup_on}
use Rattle.board.specs.declared.book.Setup.{Setup}
use Rattle.board.specs.declared.parts.Board.{Board}
use Rattle.share.specs.Tasks.{task_value}
use Rattle.share.specs.declared.plan.Plan.{Plan}

-- how a board for a plan is opened: as many replies to each move
abbrev pub board_setup : Plan → ℕ → ℕ → ℕ → Setup
board_setup plan low high margin = setup (replicate plan.moves plan.replies) low high margin

-- the board of the state, with these values
pub record IsBoardOf (g : Rules) (s : State) (role depth : ℕ) (at : AtBound) (plan : Plan) (value : ℕ → ℕ → ℤ) (narrows : Bool) (o : Setup) : Type 0
  where
    pub values : value ≡ task_value g role depth at s
    pub narrowing : narrows ≡ true
    pub opened : o.replies ≡ replicate plan.moves plan.replies

-- the board is that of the state, for what is asked of it
pub record IsSiteOf {G P W M V : Type 0} (of : Ghosts G P W M) (value : ℕ → ℕ → ℤ) (narrows : Bool) (game : G) (from : P) (asked : Question)
    (plan : Plan) (board : Board V) : Type 0 where
  pub fits : of.fits game from
  pub opened : IsBoardOf (of.rules game) (of.state game from) asked.role asked.depth asked.at plan value narrows (setup_on board)
