-- This crate's own: what `run` promises does not rest on it.
-- What the text of a history leads to.
use Rattle.std.specs.Prelude.{ℕ, List}
use Rattle.statement.specs.NamedRules.{NamedRules}
use Rattle.statement.specs.Played.{MoveNames}
use Rattle.statement.specs.Rules.{Rules}

-- a game by its parts
abbrev pub named : Rules → (ℕ → List ℕ) → MoveNames → NamedRules
named rules role_name move_name = record { rules = rules; role_name = role_name; move_name = move_name }
