-- This crate's own: what `run` promises does not rest on it.
-- The memory of play, and a turn of it.
use Rattle.std.specs.Prelude.{ℕ, ℤ, pos, ◌≡◌, ◌≤◌, ◌<◌, Some}
use Rattle.statement.specs.Rules.{Rules, State, Turn, IsTurn}
use Rattle.statement.specs.declared.at_bound.AtBound.{AtBound}
use Rattle.statement.specs.Value.{value, choice_of, reply_of}
use Rattle.game.specs.declared.game.Game.{Ghosts}
use Rattle.maximin.specs.Room.{IsRoomOf, room_depth}
use Rattle.program_searches.specs.declared.finding.Found.{Found}
use Rattle.program_searches.specs.declared.play.Play.{Play}

-- play of the game
pub record IsPlayOf {G P W M : Type 0} (of : Ghosts G P W M) (game : G) (play : Play G P W M) : Type 0 where
  pub here : of.fits game play.here
  pub next : of.fits game play.next
  pub joint : (of.rules game).roles ≤ play.joint.capacity
  pub room : IsRoomOf of game play.room

-- play of the game, with a room that serves a search for this role of so many turns
pub record IsPlayFor {G P W M : Type 0} (of : Ghosts G P W M) (game : G) (role depth : ℕ) (x : Play G P W M) : Type 0 where
  pub known : role < (of.rules game).roles
  pub play : IsPlayOf of game x
  pub deep : depth ≤ room_depth x.room

-- play of the game still, with a room that looks as far ahead
pub record IsPlayKept {G P W M : Type 0} (of : Ghosts G P W M) (game : G) (old new : Play G P W M) : Type 0 where
  pub play : IsPlayOf of game new
  pub depth : room_depth new.room ≡ room_depth old.room

-- A turn from a state in which a role plays an own move, with `depth` turns left behind it: the others play the first reply that leaves
-- the least value, and the state after it is worth this.
pub record IsTurnOf (rules : Rules) (role depth : ℕ) (at : AtBound) (s : State) (own : ℕ) (worth : ℤ) (joint : Turn) (next : State) : Type 0 where
  pub reply : reply_of rules role depth at s own ≡ Some joint
  pub turn : IsTurn rules joint
  pub after : next ≡ rules.after s joint
  pub stays : worth ≡ pos (value rules role depth at next)

-- what a search found of a state: its value, and its first best move
pub record IsFoundOf (rules : Rules) (role depth : ℕ) (at : AtBound) (s : State) (found : Found) : Type 0 where
  pub value_is : found.value ≡ pos (value rules role depth at s)
  pub choice_is : found.choice ≡ choice_of rules role depth at s
