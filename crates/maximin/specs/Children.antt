-- This crate's own: what `run` promises does not rest on it.
-- The states after a run.
use Rattle.std.specs.Prelude.{◌≡◌, ℕ, ◌<◌, ◌≤◌, List, ◌++◌, length}
use Rattle.smallvec.specs.SmallVec.{SmallVec}
use Rattle.statement.specs.Value.{value}
use Rattle.statement.specs.Rules.{State}
use Rattle.game.specs.declared.game.Game.{Ghosts}
use Rattle.game.specs.declared.question.Question.{Question}
use Rattle.maximin.specs.declared.children.Children.{Children}
use Rattle.maximin.specs.Ahead.{IsAheadOf}

-- a joint move for each of 1 to 64 states
pub record AreJointsTo (states : List State) (joints : List (SmallVec ℕ)) : Type 0 where
  pub count : length joints ≡ length states
  pub some : 0 < length joints
  pub few : length joints ≤ 64

module _ {G P W M : Type 0} (of : Ghosts G P W M) (game : G) where
  -- states of the game, and one of them that was taken
  pub record AreChildrenOf (children : Children P M) : Type 0 where
    pub many : of.fits_many game children.many
    pub position : of.fits game children.position

  -- the capacities of what they keep in memory
  abbrev pub children_capacities : Children P M → List ℕ
  children_capacities children = of.capacities game children.position ++ of.many_capacities game children.many

  -- what is known of them answers the question
  pub record AreLookedAt (asked : Question) (children : Children P M) : Type 0 where
    pub many : of.fits_many game children.many
    pub position : of.fits game children.position
    pub ahead : IsAheadOf (of.states game children.many) (λ s d. value (of.rules game) asked.role d asked.at s) asked.depth children.ahead

  -- they are the same states, and have grown nowhere
  pub record AreSameStates (old new : Children P M) : Type 0 where
    pub position : of.fits game new.position
    pub capacities : of.capacities game new.position ≡ of.capacities game old.position
    pub many : new.many ≡ old.many
