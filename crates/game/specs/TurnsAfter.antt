-- This crate's own: what `run` promises does not rest on it.
-- Turns that each begin at one of many states.
use Rattle.std.specs.Prelude.{ℕ, List, [], ◌∷◌, get_or}
use Rattle.statement.specs.Rules.{Rules, State, Turn}

-- the states after turns, each of which begins at the state at its place
abbrev pub turns_after : Rules → List State → List ℕ → List Turn → List State
turns_after g states [] turns = []
turns_after g states (place ∷ places) [] = []
turns_after g states (place ∷ places) (turn ∷ turns) = g.after (get_or states place []) turn ∷ turns_after g states places turns
