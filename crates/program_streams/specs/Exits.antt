-- This crate's own: what `run` promises does not rest on it.
-- The exit status of the program, and what it says of the streams.
use Rattle.std.specs.Prelude.{ℕ, List, Option, Result, Ok, Err}
use Rattle.std.specs.Io.KnownBytes.{Appends, Keeps}
use Rattle.statement.specs.Output.{AppendsFront}
use Rattle.statement.specs.Queries.{Query}
use Rattle.statement.specs.Answers.{Reply}
use Rattle.statement.specs.declared.status.Status.{Status}
use Rattle.statement.specs.declared.status.Status.TheVariants.{Answer, Refused}
use Rattle.program_streams.specs.declared.fault.RunFault.{RunFault}
use Rattle.program_streams.specs.declared.fault.RunFault.TheVariants.{Memory, Read, Write}
use Rattle.program_streams.specs.Faults.{fault_line}
use Rattle.statement.specs.Input.{RepliesTo}

-- 0 for an answer, 2 for a refusal, 3 for want of memory, 4 for a reader or a writer that failed
abbrev pub exit_status : Result Status RunFault → ℕ
exit_status (Ok Answer) = 0
exit_status (Ok Refused) = 2
exit_status (Err Memory) = 3
exit_status (Err Read) = 4
exit_status (Err Write) = 4

-- the errors are told the line of a fault, of which they may take a beginning alone, and of a reply nothing
abbrev pub AreErrorsTold : Result Status RunFault → Option (List ℕ) → Option (List ℕ) → Type 0
AreErrorsTold (Ok status) before after = Keeps before after
AreErrorsTold (Err fault) before after = AppendsFront before after (fault_line fault)

-- the query has this status over the input, and all that it writes was written
abbrev pub RepliedTo : Query → Status → Option (List ℕ) → Option (List ℕ) → Option (List ℕ) → Option (List ℕ) → Type 0
RepliedTo query status input left before after =
    (written : List ℕ)
    × RepliesTo query input left (record { output = written; status = status })
    × Appends before after written

-- some query has this status over the input, and all that it writes was written
abbrev pub Replied : Status → Option (List ℕ) → Option (List ℕ) → Option (List ℕ) → Option (List ℕ) → Type 0
Replied status input left before after = (query : Query) × RepliedTo query status input left before after

-- a beginning of the reply to the query over the input was written
abbrev pub BeginsReply : Query → Option (List ℕ) → Option (List ℕ) → Option (List ℕ) → Option (List ℕ) → Type 0
BeginsReply query input left before after =
    (reply : Reply) × RepliesTo query input left reply × AppendsFront before after reply.output

-- what was written where the run of a query ended so: its reply; nothing; or, where the writer failed, a beginning of its reply
abbrev pub HasWritten : Query → Result Status RunFault → Option (List ℕ) → Option (List ℕ) → Option (List ℕ) → Option (List ℕ) → Type 0
HasWritten query (Ok status) input left before after = RepliedTo query status input left before after
HasWritten query (Err Memory) input left before after = Keeps before after
HasWritten query (Err Read) input left before after = Keeps before after
HasWritten query (Err Write) input left before after = BeginsReply query input left before after
