-- This crate's own: what `run` promises does not rest on it.
-- What a caller is told of a request, and by which status.
use Rattle.std.specs.Prelude.{ℕ, List}
use Rattle.statement.specs.declared.status.Status.{Status}
use Rattle.statement.specs.declared.status.Status.TheVariants.{Answer, Refused}
use Rattle.statement.specs.declared.width.Width.TheVariants.{Plain}
use Rattle.program_words.specs.declared.command.Command.{Command}
use Rattle.program_words.specs.declared.request.Request.{Request}
use Rattle.program_words.specs.declared.request.Request.TheVariants.{Run, Lint, Unroll, Serve, Help, Misuse}
use Rattle.program_words.specs.Asked.{query_of}
use Rattle.program_words.specs.Requests.{IsCommandIn}
use Rattle.program_searches.specs.Replies.{reply_of}
use Rattle.statement.specs.Replies.{IsReply}
use Rattle.gdlsolve_c.specs.declared.told.Outcome.{Outcome}
use Rattle.gdlsolve_c.specs.declared.told.Outcome.TheVariants.{Reply, Words}

-- the bytes that are told
abbrev pub told_bytes : Outcome → List ℕ
told_bytes (Reply reply) = reply.output.items
told_bytes (Words text) = text.items

-- 0 for an answer, 2 for a refusal
abbrev pub reply_status : Status → ℕ
reply_status Answer = 0
reply_status Refused = 2

-- the status of a reply, and 1 where there is none
abbrev pub status_of : Outcome → ℕ
status_of (Reply reply) = reply_status reply.status
status_of (Words text) = 1

-- a reply is that to some command by the limits of every command over the rules
abbrev pub IsOutcome : List ℕ → Outcome → Type 0
IsOutcome rules (Reply reply) = (command : Command) × IsCommandIn Plain command × IsReply (query_of command) rules (reply_of reply)
IsOutcome rules (Words text) = Unit

-- of a command its reply is told, and of any other request a text
abbrev pub IsOutcomeOf : Request → List ℕ → Outcome → Type 0
IsOutcomeOf (Run command language) rules (Reply reply) = IsReply (query_of command) rules (reply_of reply)
IsOutcomeOf (Run command language) rules (Words text) = ⊥
IsOutcomeOf Lint rules (Reply reply) = ⊥
IsOutcomeOf Lint rules (Words text) = Unit
IsOutcomeOf (Unroll language) rules (Reply reply) = ⊥
IsOutcomeOf (Unroll language) rules (Words text) = Unit
IsOutcomeOf (Serve language) rules (Reply reply) = ⊥
IsOutcomeOf (Serve language) rules (Words text) = Unit
IsOutcomeOf (Help help) rules (Reply reply) = ⊥
IsOutcomeOf (Help help) rules (Words text) = Unit
IsOutcomeOf (Misuse fault) rules (Reply reply) = ⊥
IsOutcomeOf (Misuse fault) rules (Words text) = Unit
