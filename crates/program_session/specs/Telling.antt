-- This crate's own: what `run` promises does not rest on it.
-- What is told of a line, and the frame of it.
use Rattle.std.specs.Prelude.{ℕ, ◌≡◌, ◌⊎◌, List, [], Ok, string_bytes}
use Rattle.statement.specs.Answers.{Reply}
use Rattle.statement.specs.Replies.{IsReply}
use Rattle.statement.specs.declared.width.Width.{Width}
use Rattle.statement.specs.declared.width.Width.TheVariants.{Plain, Wide}
use Rattle.program_words.specs.Asked.{query_of}
use Rattle.program_words.specs.Requests.{IsRequestOver}
use Rattle.program_words.specs.declared.command.Language.{Language}
use Rattle.program_words.specs.declared.command.Language.TheVariants.{Profile, Whole, Tightened}
use Rattle.program_words.specs.declared.request.Request.{Request}
use Rattle.program_words.specs.declared.request.Request.TheVariants.{Run, Lint, Unroll, Serve, Help, Misuse}
use Rattle.program_streams.specs.Exits.{exit_status}
use Rattle.program_run.specs.Linted.{IsLintReply}
use Rattle.unroll_writer.specs.declared.written.Bounds.{Bounds}
use Rattle.unroll_writer.specs.declared.written.Bounds.TheVariants as bounds
use Rattle.unroll.specs.Written.{IsWrittenFor}
use Rattle.program_unroll.specs.Unrolled.{RefusesToUnroll}
use Rattle.program_session.specs.declared.framing.Frame.{Frame}
use Rattle.program_session.specs.declared.framing.Frame.TheVariants.{Made, Fixed}

-- the findings in the rules, or what `check` refuses in them
abbrev pub IsToldOfLint : List ℕ → ℕ → List ℕ → Type 0
IsToldOfLint rules status bytes =
    (reply : Reply) × IsLintReply rules reply × (status ≡ exit_status (Ok reply.status)) × (bytes ≡ reply.output)

-- of a command its reply over the rules is told, with the status that the program ends with; of any other request its text, with status 0
-- for help, and 1 where the words are no command; of what is no request of rules that stand, nothing
abbrev pub IsToldOf : Request → List ℕ → ℕ → List ℕ → Type 0
IsToldOf (Run command language) rules status bytes =
    (reply : Reply) × IsReply (query_of command) rules reply × (status ≡ exit_status (Ok reply.status)) × (bytes ≡ reply.output)
IsToldOf Lint rules status bytes = IsToldOfLint rules status bytes
IsToldOf (Unroll language) rules status bytes = (status ≡ 1) × (bytes ≡ [])
IsToldOf (Serve language) rules status bytes = (status ≡ 1) × (bytes ≡ [])
IsToldOf (Help text) rules status bytes = (status ≡ 0) × (bytes ≡ string_bytes text)
IsToldOf (Misuse text) rules status bytes = (status ≡ 1) × (bytes ≡ string_bytes text)

-- some request of rules that stand, by the limits of a width, is answered
abbrev pub IsTold : Width → List ℕ → ℕ → List ℕ → Type 0
IsTold width rules status bytes = (request : Request) × IsRequestOver width request × IsToldOf request rules status bytes

-- nothing is written for the rules, and the refusal that names why is told
abbrev pub IsToldRefusal : List ℕ → ℕ → List ℕ → Type 0
IsToldRefusal rules status bytes =
    (reply : Reply) × RefusesToUnroll rules reply × (status ≡ exit_status (Ok reply.status)) × (bytes ≡ reply.output)

-- of rules as they are found is told what is told of the text that is written for them, which may have more inputs, or why none is
abbrev pub IsToldFound : Bounds → List ℕ → ℕ → List ℕ → Type 0
IsToldFound ranges rules status bytes =
    ((out : List ℕ) × IsWrittenFor ranges rules out × IsTold Wide out status bytes) ⊎ IsToldRefusal rules status bytes

-- what is told of rules in a language
abbrev pub IsToldIn : Language → List ℕ → ℕ → List ℕ → Type 0
IsToldIn Profile = IsTold Plain
IsToldIn Whole = IsToldFound bounds.AsStated
IsToldIn Tightened = IsToldFound bounds.Tightened

-- the bytes of a frame
abbrev pub frame_bytes : Frame → List ℕ
frame_bytes (Made bytes) = bytes.items
frame_bytes (Fixed bytes) = bytes.now
