-- This crate's own: what `run` promises does not rest on it.
-- What becomes of a command over a description as it is found.
use Rattle.std.specs.Prelude.{ℕ, ◌⊎◌, List, Option, Some}
use Rattle.program_words.specs.declared.command.Command.{Command}
use Rattle.program_streams.specs.Input.{IsReadFrom}
use Rattle.program_streams.specs.Streams.{Streams, streams}
use Rattle.program_run.specs.Explained.{IsRunExplained}
use Rattle.unroll_writer.specs.declared.written.Bounds.{Bounds}
use Rattle.unroll.specs.Written.{IsWrittenFor}
use Rattle.program_unroll.specs.Unrolled.{RefusesToUnroll, IsExplainedRunOf}

-- A text is written for the input that was read, and the command was run where this text is all that there is to read: the output, the errors
-- and the status are those of that run.
abbrev pub IsRunOverWritten : Bounds → Command → ℕ → Streams → Streams → Type 0
IsRunOverWritten bounds command status old new =
    (bytes : List ℕ) × (out : List ℕ) × (left : Option (List ℕ))
    × IsReadFrom old.input new.input bytes × IsWrittenFor bounds bytes out
    × IsRunExplained command status (streams (Some out) old.output old.errors) (streams left new.output new.errors)

-- the command was run over what is written for the input; or the refusal to write it out was told and explained, or why there was none
abbrev pub IsFoundRun : Bounds → Command → ℕ → Streams → Streams → Type 0
IsFoundRun bounds command status old new = IsRunOverWritten bounds command status old new ⊎ IsExplainedRunOf RefusesToUnroll status old new
