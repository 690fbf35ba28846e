-- This crate's own: what `run` promises does not rest on it.
-- What a call that explains leaves in the caller's memory.
use Rattle.std.specs.Prelude.{ℕ, List}
use Rattle.diagnose_refusals.specs.Headed.{IsHeaded}
use Rattle.gdlsolve_c.specs.Calls.{Fills}

-- the room is filled with a text that says what it is about
abbrev pub RoomExplained : List ℕ → List ℕ → ℕ → Type 0
RoomExplained old new size = (bytes : List ℕ) × IsHeaded bytes × Fills old new size bytes
