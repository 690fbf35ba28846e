-- This crate's own: what `run` promises does not rest on it.
-- The lines of requests.
use Rattle.std.specs.Prelude.{ℕ, ◌≡◌, ◌≢◌, List, [], ◌∷◌, ◌++◌, Option, Result, Ok, Err, codes}
use Rattle.std.specs.List.{All}
use Rattle.std.specs.Io.KnownBytes.{Consumes, IsAtEnd}
use Rattle.program_requests.specs.declared.fault.ReadFault.{ReadFault}
use Rattle.program_requests.specs.declared.gathered.Gathered.{Gathered}
use Rattle.program_requests.specs.declared.lines.LineEnd.{LineEnd}
use Rattle.program_requests.specs.declared.lines.LineEnd.TheVariants.{Fed, Cut}
use Rattle.program_requests.specs.Feeds.{HasFront}
use Rattle.program_requests.specs.Sizes.{IsSize}

-- how many bytes a line may have: 65,536, and those of a history
abbrev pub line_limit : ℕ
line_limit = 1114112

-- there is no line feed in it
abbrev pub IsLine : List ℕ → Type 0
IsLine line = All (λ b. b ≢ 10) line

-- the line asks that rules of so many bytes be read, which stand behind it
abbrev pub AsksForRules : List ℕ → ℕ → Type 0
AsksForRules line n = (digits : List ℕ) × (line ≡ codes "rules " ++ digits) × IsSize digits n

abbrev pub AsksForNoRules : List ℕ → Type 0
AsksForNoRules line = (n : ℕ) → AsksForRules line n → ⊥

-- a line was taken, with its line feed or to the end of the input; or the reader failed behind some bytes
abbrev pub IsLineTaken : Result LineEnd ReadFault → Gathered → Option (List ℕ) → Option (List ℕ) → Type 0
IsLineTaken (Ok Fed) g old new = (line : List ℕ) × IsLine line × HasFront g line × Consumes old new (line ++ 10 ∷ [])
IsLineTaken (Ok Cut) g old new = (line : List ℕ) × IsLine line × HasFront g line × Consumes old new line × IsAtEnd new
IsLineTaken (Err fault) g old new = (bytes : List ℕ) × Consumes old new bytes
