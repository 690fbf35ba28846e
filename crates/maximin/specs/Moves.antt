-- This crate's own: what `run` promises does not rest on it.
-- The joint moves of a state, which are gone through run by run.
use Rattle.std.specs.Prelude.{◌≡◌, ℕ, Bool, ◌<◌, ◌≤◌, List, ◌∷◌, ◌++◌, All, false, take}
use Rattle.std.specs.Bool.{OnTrue, OnFalse}
use Rattle.statement.specs.Rules.{Rules, State, IsTurn, is_stuck}
use Rattle.maximin.specs.declared.moves.Moves.{Moves}
use Rattle.maximin.specs.Cursor.{IsCursorOf, cursor_capacities}
use Rattle.maximin.specs.Run.{IsRunOf, turns_in, run_capacities}
use Rattle.maximin.specs.Turns.{StandsAt, later}

-- the cursor and the run are for a game with this many roles
pub record AreMovesOf (roles : ℕ) (moves : Moves) : Type 0 where
  pub cursor : IsCursorOf roles moves.cursor
  pub run : IsRunOf roles moves.run

-- the capacities of what they keep in memory
abbrev pub moves_capacities : Moves → List ℕ
moves_capacities moves = cursor_capacities moves.cursor ++ run_capacities moves.run

-- a move of the role in a state that is not stuck
pub record CanPlay (g : Rules) (s : State) (r m : ℕ) : Type 0 where
  pub role : r < g.roles
  pub own : m < g.moves r
  pub free : is_stuck g s ≡ false

-- a run of at most so many joint moves of the game
pub record IsTaken (g : Rules) (most : ℕ) (old new : Moves) : Type 0 where
  pub moves : AreMovesOf g.roles new
  pub capacities : moves_capacities new ≡ moves_capacities old
  pub some : 0 < new.run.count
  pub few : new.run.count ≤ most
  pub known : All (IsTurn g) (turns_in new.run)

-- the run has the joint moves from the old cursor on up to the new one, or to the last of all
pub record IsGoneOver (lists : List (List ℕ)) (left : Bool) (old new : Moves) : Type 0 where
  pub stands : OnTrue left (StandsAt lists new.cursor.places.items new.cursor.joint.items)
  pub more : OnTrue left (old.cursor.joint.items ∷ later lists old.cursor.places.items
      ≡ turns_in new.run ++ new.cursor.joint.items ∷ later lists new.cursor.places.items)
  pub all : OnFalse left (old.cursor.joint.items ∷ later lists old.cursor.places.items ≡ turns_in new.run)

-- the run has joint moves of the game
pub record HaveTurns (g : Rules) (m : Moves) : Type 0 where
  pub moves : AreMovesOf g.roles m
  pub known : All (IsTurn g) (turns_in m.run)

-- the run has joint moves of the game, and those that it had before in front
pub record AreLonger (g : Rules) (old new : Moves) : Type 0 where
  pub moves : AreMovesOf g.roles new
  pub capacities : moves_capacities new ≡ moves_capacities old
  pub known : All (IsTurn g) (turns_in new.run)
  pub count : old.run.count ≤ new.run.count
  pub front : take old.run.count (turns_in new.run) ≡ turns_in old.run
