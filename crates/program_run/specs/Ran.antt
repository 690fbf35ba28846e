-- This crate's own: what `run` promises does not rest on it.
-- How a run ended that keeps what it read and wrote.
use Rattle.std.specs.Prelude.{Result, Ok, Err}
use Rattle.statement.specs.declared.status.Status.{Status}
use Rattle.program_streams.specs.declared.fault.RunFault.{RunFault}
use Rattle.program_run.specs.declared.runs.Ran.{Ran}

-- the status of the reply that it keeps, or its fault
abbrev pub ended_of : Result Ran RunFault → Result Status RunFault
ended_of (Ok ran) = Ok ran.reply.status
ended_of (Err fault) = Err fault
