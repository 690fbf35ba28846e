-- This crate's own: what `run` promises does not rest on it.
-- A turn of a session.
use Rattle.std.specs.Prelude.{ℕ, ◌⊎◌, Bool, true, false, List, Option, Result, Ok, Err}
use Rattle.std.specs.Io.KnownBytes.{Consumes, Appends, Keeps, IsAtEnd}
use Rattle.statement.specs.Output.{AppendsFront}
use Rattle.program_streams.specs.declared.fault.RunFault.{RunFault}
use Rattle.program_streams.specs.declared.fault.RunFault.TheVariants.{Memory, Read, Write}
use Rattle.program_requests.specs.Sessions.{IsExchange, IsLast}
use Rattle.program_requests.specs.Desks.{Stand}
use Rattle.program_words.specs.declared.command.Language.{Language}
use Rattle.program_session.specs.Telling.{IsToldIn}

-- A turn of a session over rules in a language: a request and its frame, and whether the input goes on; or some bytes and no frame, where the reader failed; or a
-- beginning of the frame.
abbrev pub IsTurn : Language → Result Bool RunFault → List ℕ → List ℕ → Option (List ℕ) → Option (List ℕ) → Option (List ℕ) → Option (List ℕ) → Type 0
IsTurn language (Ok true) kept kept_now old new before after =
    (rules : List ℕ) → Stand kept rules → (request : List ℕ) × (out : List ℕ) × (then : List ℕ)
    × IsExchange (IsToldIn language) rules request out then × Stand kept_now then × Consumes old new request × Appends before after out
IsTurn language (Ok false) kept kept_now old new before after =
    (rules : List ℕ) → Stand kept rules → (request : List ℕ) × (out : List ℕ)
    × IsLast (IsToldIn language) rules request out × Consumes old new request × IsAtEnd new × Appends before after out
IsTurn language (Err Memory) kept kept_now old new before after = ⊥
IsTurn language (Err Read) kept kept_now old new before after = (bytes : List ℕ) × Consumes old new bytes × Keeps before after
IsTurn language (Err Write) kept kept_now old new before after =
    (rules : List ℕ) → Stand kept rules → (request : List ℕ) × (out : List ℕ)
    × (((then : List ℕ) × IsExchange (IsToldIn language) rules request out then) ⊎ IsLast (IsToldIn language) rules request out)
    × Consumes old new request × AppendsFront before after out
