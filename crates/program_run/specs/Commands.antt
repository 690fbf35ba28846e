-- This crate's own: what `run` promises does not rest on it.
-- What becomes of a command, and of a text that is shown in place of one.
use Rattle.std.specs.Prelude.{ℕ, List, Result, ◌≡◌, ◌⊎◌}
use Rattle.std.specs.Io.KnownBytes.{Appends, Keeps}
use Rattle.statement.specs.Output.{AppendsFront}
use Rattle.program_words.specs.declared.command.Command.{Command}
use Rattle.program_words.specs.Asked.{query_of}
use Rattle.statement.specs.declared.status.Status.{Status}
use Rattle.program_streams.specs.declared.fault.RunFault.{RunFault}
use Rattle.program_streams.specs.declared.fault.RunFault.TheVariants.{Write}
use Rattle.program_streams.specs.Exits.{exit_status, HasWritten, AreErrorsTold}
use Rattle.program_streams.specs.Faults.{fault_line}
use Rattle.program_streams.specs.Streams.{Streams}

-- the command was run, and the status says how that ended
abbrev pub IsCommandRun : Command → ℕ → Streams → Streams → Type 0
IsCommandRun command status old new =
    (ended : Result Status RunFault)
    × (status ≡ exit_status ended)
    × HasWritten (query_of command) ended old.input new.input old.output new.output
    × AreErrorsTold ended old.errors new.errors

-- the text was written whole, with status 0; or, with status 4, the writer failed and has a beginning of it
abbrev pub HasShown : List ℕ → ℕ → Streams → Streams → Type 0
HasShown text status old new =
    ((status ≡ 0) × Appends old.output new.output text × Keeps old.errors new.errors)
    ⊎ ((status ≡ 4) × AppendsFront old.output new.output text × AppendsFront old.errors new.errors (fault_line Write))
