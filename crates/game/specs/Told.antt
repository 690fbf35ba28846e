-- This crate's own: what `run` promises does not rest on it.
-- What is told of a state before it is taken.
use Rattle.std.specs.Prelude.{ℕ, ◌≡◌, ⊤, true, false, Option, Some, None, if◌then◌else◌}
use Rattle.game.specs.declared.told.Told.{Told}
use Rattle.game.specs.declared.told.Told.TheVariants.{Ended, Open, Nothing}
use Rattle.statement.specs.Rules.{Rules, State}

-- what is told of the state, and of the role's goal value in it, is so
abbrev pub IsTold : Rules → State → ℕ → Told → Type 0
IsTold g s role (Ended v) = (g.ended s ≡ true) × (v ≡ g.goal s role)
IsTold g s role Open = g.ended s ≡ false
IsTold g s role Nothing = ⊤

-- the role's goal value in the state, if the game has ended there
abbrev pub end_worth : Rules → State → ℕ → Option ℕ
end_worth g s role = if g.ended s then Some (g.goal s role) else None
