-- This crate's own: what `run` promises does not rest on it.
-- What becomes of the command `unroll`.
use Rattle.std.specs.Prelude.{ℕ, ◌≡◌, ◌≢◌, ◌⊎◌, List, Option, Result, Ok, Err, IfOk, IfErr}
use Rattle.std.specs.Io.KnownBytes.{Appends, Keeps}
use Rattle.statement.specs.Output.{AppendsFront}
use Rattle.statement.specs.Answers.{Reply, answer, refusal}
use Rattle.statement.specs.declared.status.Status.{Status}
use Rattle.program_streams.specs.declared.fault.RunFault.{RunFault}
use Rattle.program_streams.specs.declared.fault.RunFault.TheVariants.{Memory, Read, Write}
use Rattle.program_streams.specs.Input.{IsReadFrom}
use Rattle.program_streams.specs.Exits.{exit_status, AreErrorsTold}
use Rattle.program_streams.specs.Streams.{Streams}
use Rattle.program_streams.specs.MoreTold.{TellsMore, before_more}
use Rattle.unroll_strata.specs.FaultTexts.{unroll_fault_words}
use Rattle.unroll_strata.specs.declared.fault.UnrollFault.{UnrollFault}
use Rattle.unroll_strata.specs.declared.fault.UnrollFault.TheVariants as faults
use Rattle.unroll_writer.specs.declared.written.Bounds.{Bounds}
use Rattle.unroll.specs.Written.{IsUnrollFault, IsWrittenFor}

-- the text has a fault, and the reply names it
abbrev pub RefusesToUnroll : List ℕ → Reply → Type 0
RefusesToUnroll bytes reply =
    (fault : UnrollFault) × (fault ≢ faults.NoMemory) × IsUnrollFault bytes fault × (reply ≡ refusal (unroll_fault_words fault))

-- the reply is what is written for a text, or names its fault
abbrev pub IsUnrollReply : Bounds → List ℕ → Reply → Type 0
IsUnrollReply bounds bytes reply = ((out : List ℕ) × IsWrittenFor bounds bytes out × (reply ≡ answer out)) ⊎ RefusesToUnroll bytes reply

-- What was written where a run ended so, to which such replies are made: one to the bytes that were read, with this status; nothing; or,
-- where the writer failed, a beginning of one.
abbrev pub HasTold : (List ℕ → Reply → Type 0) → Result Status RunFault → Option (List ℕ) → Option (List ℕ) → Option (List ℕ) → Option (List ℕ) → Type 0
HasTold Is (Ok status) input left before after =
    (bytes : List ℕ) × (reply : Reply)
    × IsReadFrom input left bytes × Is bytes reply × (reply.status ≡ status) × Appends before after reply.output
HasTold Is (Err Memory) input left before after = Keeps before after
HasTold Is (Err Read) input left before after = Keeps before after
HasTold Is (Err Write) input left before after =
    (bytes : List ℕ) × (reply : Reply) × IsReadFrom input left bytes × Is bytes reply × AppendsFront before after reply.output

-- the status says how that ended, and the errors are told a fault of the run
abbrev pub IsRunOf : (List ℕ → Reply → Type 0) → ℕ → Streams → Streams → Type 0
IsRunOf Is status old new =
    (ended : Result Status RunFault) × (status ≡ exit_status ended)
    × HasTold Is ended old.input new.input old.output new.output × AreErrorsTold ended old.errors new.errors

-- and then more was told to the errors, if it was refused
abbrev pub IsExplainedRunOf : (List ℕ → Reply → Type 0) → ℕ → Streams → Streams → Type 0
IsExplainedRunOf Is status old new =
    (told : Option (List ℕ)) × IsRunOf Is status old (before_more new told) × TellsMore (status ≡ 2) told new.errors

-- what is written for the text of the input was written, or its fault
abbrev pub IsUnrollRun : Bounds → ℕ → Streams → Streams → Type 0
IsUnrollRun bounds = IsExplainedRunOf (IsUnrollReply bounds)

-- How the writing of a reply ended: it was written, or a beginning of it where the writer failed, which the errors are told; the status says
-- which, and then more was told to the errors, if it is a refusal.
abbrev pub IsReplyTold : Reply → ℕ → Option (List ℕ) → Option (List ℕ) → Option (List ℕ) → Option (List ℕ) → Type 0
IsReplyTold reply status before after errors new =
    (ended : Result Status RunFault) × (told : Option (List ℕ)) × (status ≡ exit_status ended)
    × IfOk ended (λ status. (status ≡ reply.status) × Appends before after reply.output)
    × IfErr ended (λ fault. (fault ≡ Write) × AppendsFront before after reply.output)
    × AreErrorsTold ended errors told × TellsMore (status ≡ 2) told new
