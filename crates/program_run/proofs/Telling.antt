-- What is told behind what the program tells without explanations.
use Rattle.std.proofs.Common.{ℕ, ◌≡◌, ◌≢◌, inl, inr, List, refl, ap, ◌∙◌}
use Rattle.std.proofs.KnownBytes.{Keeps-refl}
use Rattle.std.specs.Prelude.{Option, Result, Ok, Err, IfOk, IfErr}
use Rattle.std.specs.Io.KnownBytes.{Appends, Keeps}
use Rattle.statement.specs.Output.{AppendsFront}
use Rattle.statement.specs.Answers.{Reply}
use Rattle.statement.specs.Queries.{Query}
use Rattle.statement.specs.Input.{RepliesTo}
use Rattle.statement.specs.declared.status.Status.{Status}
use Rattle.statement.specs.declared.status.Status.TheVariants.{Refused}
use Rattle.program_streams.specs.declared.fault.RunFault.{RunFault}
use Rattle.program_streams.specs.declared.fault.RunFault.TheVariants.{Memory, Read, Write}
use Rattle.program_run.specs.declared.runs.Ran.{Ran}
use Rattle.program_run.specs.Ran.{ended_of}
use Rattle.program_streams.specs.Exits.{exit_status, HasWritten, RepliedTo}
use Rattle.program_streams.specs.MoreTold.{TellsMore}
use Rattle.program_run.specs.Explained.{IsReplied, IsAnswered}

-- what a run wrote that keeps its reply
pub written : (query : Query) (r : Result Ran RunFault) (input left before after : Option (List ℕ))
    → IfOk r (λ ran. RepliedTo query ran.reply.status input left before after)
    → IfErr r (λ fault. fault ≢ Write → Keeps before after)
    → IfErr r (λ fault. fault ≡ Write → (reply : Reply) × RepliesTo query input left reply × AppendsFront before after reply.output)
    → HasWritten query (ended_of r) input left before after
written query (Ok ran) input left before after ok silent broken = ok
written query (Err Memory) input left before after ok silent broken = silent (λ e. cc)
written query (Err Read) input left before after ok silent broken = silent (λ e. cc)
written query (Err Write) input left before after ok silent broken = broken refl

-- more is told only where a weaker condition holds
pub tells_if : {P Q : Type 0} (before after : Option (List ℕ)) → (P → Q) → TellsMore P before after → TellsMore Q before after
tells_if before after f (inl kept) = inl kept
tells_if before after f (inr told) = inr (f told.0, told.1, told.2)

pub tells_none : {P : Type 0} (now : Option (List ℕ)) → TellsMore P now now
tells_none now = inl (Keeps-refl now)

-- a run that ended with a refusal has status 2
pub refused_is_two : (ended : Result Status RunFault) (status : ℕ) → status ≡ exit_status ended → ended ≡ Ok Refused → status ≡ 2
refused_is_two ended status is e = is ∙ ap exit_status e

-- a run that ended with its reply has status 2 or 0
pub replied_is_answered : (ended kept : Result Status RunFault) (status : ℕ) → status ≡ exit_status ended → ended ≡ kept → IsReplied kept → IsAnswered status
replied_is_answered ended kept status is same (inl e) = inl (is ∙ ap exit_status (same ∙ e))
replied_is_answered ended kept status is same (inr e) = inr (is ∙ ap exit_status (same ∙ e))
