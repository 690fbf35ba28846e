-- This crate's own: what `run` promises does not rest on it.
-- What becomes of the command `lint`.
use Rattle.std.specs.Prelude.{ℕ, ◌≡◌, ◌⊎◌, List, [], ◌∷◌, Option, Result, Ok, Err}
use Rattle.std.specs.Io.KnownBytes.{Appends, Keeps}
use Rattle.statement.specs.Output.{AppendsFront}
use Rattle.statement.specs.Answers.{Reply}
use Rattle.statement.specs.Replies.{IsReply}
use Rattle.statement.specs.Queries as query
use Rattle.statement.specs.declared.status.Status.{Status}
use Rattle.statement.specs.declared.status.Status.TheVariants.{Answer, Refused}
use Rattle.program_streams.specs.declared.fault.RunFault.{RunFault}
use Rattle.program_streams.specs.declared.fault.RunFault.TheVariants.{Memory, Read, Write}
use Rattle.program_streams.specs.Input.{IsReadFrom}
use Rattle.program_streams.specs.Exits.{exit_status, AreErrorsTold}
use Rattle.program_streams.specs.Streams.{Streams}
use Rattle.program_streams.specs.MoreTold.{TellsMore}

-- lines of findings are no answer, and none are one
abbrev pub status_of_lines : List ℕ → Status
status_of_lines [] = Answer
status_of_lines (b ∷ bs) = Refused

-- what `check` refuses is refused in the same words, and of all else the lines of findings are told
abbrev pub IsLintReply : List ℕ → Reply → Type 0
IsLintReply bytes reply =
    (checked : Reply) × IsReply query.check bytes checked
    × (((checked.status ≡ Refused) × (reply ≡ checked)) ⊎ ((checked.status ≡ Answer) × (reply.status ≡ status_of_lines reply.output)))

-- such a reply to the bytes that were read, with this status, was written
abbrev pub IsLinted : Status → Option (List ℕ) → Option (List ℕ) → Option (List ℕ) → Option (List ℕ) → Type 0
IsLinted status input left before after =
    (bytes : List ℕ) × (reply : Reply)
    × IsReadFrom input left bytes × IsLintReply bytes reply × (reply.status ≡ status) × Appends before after reply.output

-- what was written where the run ended so
abbrev pub HasLinted : Result Status RunFault → Option (List ℕ) → Option (List ℕ) → Option (List ℕ) → Option (List ℕ) → Type 0
HasLinted (Ok status) input left before after = IsLinted status input left before after
HasLinted (Err Memory) input left before after = Keeps before after
HasLinted (Err Read) input left before after = Keeps before after
HasLinted (Err Write) input left before after =
    (bytes : List ℕ) × (reply : Reply) × IsReadFrom input left bytes × IsLintReply bytes reply × AppendsFront before after reply.output

-- the status says how that ended, and then more was told to the errors, if it was refused
abbrev pub IsLintRun : ℕ → Streams → Streams → Type 0
IsLintRun status old new =
    (ended : Result Status RunFault) × (status ≡ exit_status ended)
    × HasLinted ended old.input new.input old.output new.output
    × ((told : Option (List ℕ)) × AreErrorsTold ended old.errors told × TellsMore (status ≡ 2) told new.errors)
