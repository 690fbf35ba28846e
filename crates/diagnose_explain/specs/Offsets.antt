-- This crate's own: what `run` promises does not rest on it.
-- Where the fault of a text stands.
use Rattle.std.specs.Prelude.{ℕ}
use Rattle.statement.specs.Reading.{text_limit}
use Rattle.statement.specs.declared.text_fault.KifFault.{KifFault}
use Rattle.statement.specs.declared.text_fault.KifFault.TheVariants.{TooLong, BadByte, TooDeep, Unclosed, Unopened, NameTooLong, NoMemory}

-- the offset that the fault names; a text that is too long has it at the first byte beyond the limit
abbrev pub offset_of : KifFault → ℕ
offset_of TooLong = text_limit
offset_of (BadByte o) = o
offset_of (TooDeep o) = o
offset_of (Unclosed o) = o
offset_of (Unopened o) = o
offset_of (NameTooLong o) = o
offset_of NoMemory = 0
