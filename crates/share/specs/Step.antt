-- This crate's own: what `run` promises does not rest on it.
use Rattle.std.specs.Prelude.{◌≡◌}
use Rattle.smallvec.specs.SmallVec.{small_vec_len}
use Rattle.game.specs.declared.game.Game.{Ghosts}
use Rattle.share.specs.declared.step.Step.{Step}

-- a step of the game
pub record IsStepOf {G P W M : Type 0} (of : Ghosts G P W M) (game : G) (step : Step P) : Type 0 where
  pub position : of.fits game step.position
  pub joint : small_vec_len step.joint ≡ (of.rules game).roles
