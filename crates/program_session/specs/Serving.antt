-- This crate's own: what `run` promises does not rest on it.
-- What becomes of the streams in a session.
use Rattle.std.specs.Prelude.{ℕ, ◌≡◌, List, ◌++◌, Option, Result, Ok, Err}
use Rattle.std.specs.Io.KnownBytes.{Appends, Consumes, Keeps, IsAtEnd}
use Rattle.statement.specs.Output.{AppendsFront}
use Rattle.statement.specs.declared.status.Status.{Status}
use Rattle.statement.specs.declared.status.Status.TheVariants.{Answer, Refused}
use Rattle.program_streams.specs.declared.fault.RunFault.{RunFault}
use Rattle.program_streams.specs.declared.fault.RunFault.TheVariants.{Memory, Read, Write}
use Rattle.program_streams.specs.Exits.{exit_status, AreErrorsTold}
use Rattle.program_streams.specs.Streams.{Streams}
use Rattle.program_requests.specs.Sessions.{IsSession, IsWholeSession}
use Rattle.program_words.specs.declared.command.Language.{Language}
use Rattle.program_session.specs.Telling.{IsToldIn}

-- What was read and written where a session over rules in a language ended so: at the end of the input all requests are answered; where there was no memory to begin
-- one, nothing was read or written; where the reader failed, the requests before that are answered; and where the writer failed, it has a
-- beginning of the answers to those that were read.
abbrev pub HasServed : Language → Result Status RunFault → Option (List ℕ) → Option (List ℕ) → Option (List ℕ) → Option (List ℕ) → Type 0
HasServed language (Ok Answer) input left before after =
    (taken : List ℕ) × (told : List ℕ) × IsWholeSession (IsToldIn language) taken told × Consumes input left taken × IsAtEnd left × Appends before after told
HasServed language (Ok Refused) input left before after = ⊥
HasServed language (Err Memory) input left before after = Keeps input left × Keeps before after
HasServed language (Err Read) input left before after =
    (taken : List ℕ) × (told : List ℕ) × (rules : List ℕ) × (more : List ℕ) × IsSession (IsToldIn language) taken told rules × Consumes input left (taken ++ more) × Appends before after told
HasServed language (Err Write) input left before after =
    (taken : List ℕ) × (told : List ℕ) × (more : List ℕ) × IsWholeSession (IsToldIn language) taken told × Consumes input left (taken ++ more) × AppendsFront before after told

-- a session was held, and the status says how that ended
abbrev pub IsServed : Language → ℕ → Streams → Streams → Type 0
IsServed language status old new =
    (ended : Result Status RunFault) × (status ≡ exit_status ended)
    × HasServed language ended old.input new.input old.output new.output
    × AreErrorsTold ended old.errors new.errors
