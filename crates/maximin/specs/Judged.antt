-- This crate's own: what `run` promises does not rest on it.
-- States of which only the end is asked.
use Rattle.std.specs.Prelude.{◌≡◌, ℕ, ◌<◌, ◌≤◌, List, All, length, map}
use Rattle.smallvec.specs.SmallVec.{SmallVec}
use Rattle.statement.specs.declared.at_bound.AtBound.TheVariants.{Zero}
use Rattle.statement.specs.Rules.{Rules, State, IsTurn}
use Rattle.game.specs.declared.game.Game.{Ghosts}
use Rattle.game.specs.declared.question.Question.{Question}

-- 1 to 64 joint moves of the game
pub record CanBeStepped (g : Rules) (joints : List (SmallVec ℕ)) : Type 0 where
  pub some : 0 < length joints
  pub few : length joints ≤ 64
  pub known : All (λ (j : SmallVec ℕ). IsTurn g j.items) joints

module _ {G P W M : Type 0} (of : Ghosts G P W M) (game : G) where
  -- the question is what states are worth where the turns are over, and it can be told of the states after joint moves
  pub record AreJudged (asked : Question) (s : State) (joints : List (SmallVec ℕ)) (w : W) : Type 0 where
    pub depth : asked.depth ≡ 0
    pub bound : asked.at ≡ Zero
    pub after : of.judged game w ≡ map (λ (j : SmallVec ℕ). (of.rules game).after s j.items) joints
