-- This crate's own: what `run` promises does not rest on it.
-- States in which no other role has a choice.
use Rattle.std.specs.Prelude.{◌≡◌, ◌≢◌, ℕ, ◌+◌, ◌<◌, ◌≤◌, List, All, length, map, take, drop, slice_set}
use Rattle.statement.specs.Rules.{Rules, State, Turn, IsTurn}
use Rattle.maximin.specs.declared.run.Run.{Run}
use Rattle.maximin.specs.Run.{IsRunOf, turns_in}

-- each other role has one legal move at most
abbrev pub IsAlone : Rules → State → ℕ → Type 0
IsAlone g s role = (q : ℕ) → q < g.roles → q ≢ role → length (g.legal s q) ≤ 1

-- the joint moves in which the role plays so many of its moves, from this place on, and the others play as here
abbrev pub turns_from : Rules → State → ℕ → Turn → ℕ → ℕ → List Turn
turns_from g s role joint place count = map (λ m. slice_set joint role m) (take count (drop place (g.legal s role)))

-- a run of those from this place on, at most so many, which has the last of them if it has fewer
pub record IsOwnRun (g : Rules) (s : State) (role : ℕ) (joint : Turn) (place most : ℕ) (r : Run) : Type 0 where
  pub run : IsRunOf g.roles r
  pub few : r.count ≤ most
  pub within : place + r.count ≤ length (g.legal s role)
  pub all : r.count < most → length (g.legal s role) ≤ place + r.count
  pub known : All (IsTurn g) (turns_in r)
  pub turns : turns_in r ≡ turns_from g s role joint place r.count
