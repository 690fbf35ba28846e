-- This crate's own: what `run` promises does not rest on it.
-- The texts behind lines that ask for rules.
use Rattle.std.specs.Prelude.{ℕ, ◌≡◌, ◌<◌, Bool, true, false, List, length, Option, Result, Ok, Err}
use Rattle.std.specs.Io.KnownBytes.{Consumes, IsAtEnd}
use Rattle.program_requests.specs.declared.fault.ReadFault.{ReadFault}
use Rattle.program_requests.specs.declared.gathered.Gathered.{Gathered}
use Rattle.program_requests.specs.Feeds.{HasFront}

-- a text of this size was taken; or the input ended before; or the reader failed behind some bytes
abbrev pub IsTextTaken : ℕ → Result Bool ReadFault → Gathered → Option (List ℕ) → Option (List ℕ) → Type 0
IsTextTaken size (Ok true) g old new = (text : List ℕ) × (length text ≡ size) × HasFront g text × Consumes old new text
IsTextTaken size (Ok false) g old new = (text : List ℕ) × (length text < size) × Consumes old new text × IsAtEnd new
IsTextTaken size (Err fault) g old new = (bytes : List ℕ) × Consumes old new bytes
