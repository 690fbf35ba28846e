-- This crate's own: what `run` promises does not rest on it.
-- What is told to the errors behind what a command tells them without explanations.
use Rattle.std.specs.Prelude.{ℕ, List, Option, Result, Ok, ◌≡◌, ◌⊎◌}
use Rattle.program_words.specs.declared.command.Command.{Command}
use Rattle.statement.specs.declared.status.Status.{Status}
use Rattle.statement.specs.declared.status.Status.TheVariants.{Answer, Refused}
use Rattle.program_streams.specs.declared.fault.RunFault.{RunFault}
use Rattle.program_streams.specs.Streams.{Streams}
use Rattle.program_streams.specs.MoreTold.{TellsMore, before_more}
use Rattle.program_run.specs.Commands.{IsCommandRun}

-- the run ended with its reply
abbrev pub IsReplied : Result Status RunFault → Type 0
IsReplied ended = (ended ≡ Ok Refused) ⊎ (ended ≡ Ok Answer)

-- an explanation stands behind a refusal, and a warning behind an answer
abbrev pub IsAnswered : ℕ → Type 0
IsAnswered status = (status ≡ 2) ⊎ (status ≡ 0)

-- the command was run, and then more was told, if it was refused or answered
abbrev pub IsRunExplained : Command → ℕ → Streams → Streams → Type 0
IsRunExplained command status old new =
    (told : Option (List ℕ)) × IsCommandRun command status old (before_more new told) × TellsMore (IsAnswered status) told new.errors
