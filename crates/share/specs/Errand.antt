-- This crate's own: what `run` promises does not rest on it.
use Rattle.std.specs.Prelude.{◌≡◌, ◌<◌, ◌-◌, ℕ, ℤ, pos, Contains, IfNone, IfSome}
use Rattle.statement.specs.declared.at_bound.AtBound.{AtBound}
use Rattle.statement.specs.Rules.{Rules, State}
use Rattle.statement.specs.Value.{value, worst}
use Rattle.game.specs.declared.game.Game.{Ghosts}
use Rattle.maximin.specs.Company.{company_game}
use Rattle.maximin.specs.Open.{IsOpen}
use Rattle.share.specs.declared.errand.Errand.{Errand}

-- a legal move of a state in which play goes on, and the least value that it leaves
pub record IsMoveOf (g : Rules) (role depth : ℕ) (at : AtBound) (s : State) (worth : ℤ) (own : ℕ) : Type 0 where
  pub goes_on : IsOpen g depth s
  pub legal : Contains (g.legal s role) own
  pub leaves : worth ≡ pos (worst g role (depth - 1) at s own)

-- what is said of the state and of the move is so, and the tables are for the game
pub record IsErrandOf {G P W M : Type 0} (of : Ghosts G P W M) (x : Errand G P W M) : Type 0 where
  pub fits : of.fits x.game.now x.from.now
  pub role : x.asked.role < (of.rules x.game.now).roles
  pub shared : company_game x.company.now ≡ x.game.now
  pub choice : IfNone x.own (x.worth ≡ pos (value (of.rules x.game.now) x.asked.role x.asked.depth x.asked.at (of.state x.game.now x.from.now)))
  pub reply : IfSome x.own (IsMoveOf (of.rules x.game.now) x.asked.role x.asked.depth x.asked.at (of.state x.game.now x.from.now) x.worth)
