-- Which of its two ways a reply came, by its status, and what is told of one.
use Rattle.std.proofs.Common.{ℕ, ◌≡◌, ◌≢◌, inl, inr, List, refl, sym, ap, subst, ◌∙◌}
use Rattle.std.proofs.KnownBytes.{Keeps-refl}
use Rattle.std.specs.Prelude.{Option, Result, Ok, Err, IfOk, IfErr}
use Rattle.std.specs.Io.KnownBytes.{Appends}
use Rattle.statement.specs.Output.{AppendsFront}
use Rattle.statement.specs.Answers.{Reply}
use Rattle.statement.specs.declared.status.Status.{Status}
use Rattle.statement.specs.declared.status.Status.TheVariants.{Answer, Refused}
use Rattle.program_streams.specs.declared.fault.RunFault.{RunFault}
use Rattle.program_streams.specs.declared.fault.RunFault.TheVariants.{Memory, Read, Write}
use Rattle.program_streams.specs.Input.{IsReadFrom}
use Rattle.program_streams.specs.Exits.{exit_status, AreErrorsTold}
use Rattle.program_streams.specs.Streams.{streams}
use Rattle.program_streams.specs.MoreTold.{TellsMore}
use Rattle.unroll_writer.specs.declared.written.Bounds.{Bounds}
use Rattle.unroll.specs.Written.{IsWrittenFor}
use Rattle.program_unroll.specs.Unrolled.{IsUnrollReply, RefusesToUnroll, HasTold, IsExplainedRunOf, IsReplyTold}

-- an answer is the text that is written
pub written_by : (bounds : Bounds) (bytes : List ℕ) (reply : Reply) → reply.status ≡ Answer → IsUnrollReply bounds bytes reply
    → IsWrittenFor bounds bytes reply.output
written_by bounds bytes reply answered (inl h) =
    let same : h.0 ≡ reply.output = sym (ap (λ (r : Reply). r.output) h.2) in
    subst (λ (out : List ℕ). IsWrittenFor bounds bytes out) same h.1
written_by bounds bytes reply answered (inr h) =
    let other : reply.status ≡ Refused = ap (λ (r : Reply). r.status) h.3 in absurd cc

-- and a refusal names a fault
pub refused_by : (bounds : Bounds) (bytes : List ℕ) (reply : Reply) → reply.status ≡ Refused → IsUnrollReply bounds bytes reply → RefusesToUnroll bytes reply
refused_by bounds bytes reply refused (inl h) =
    let other : reply.status ≡ Answer = ap (λ (r : Reply). r.status) h.2 in absurd cc
refused_by bounds bytes reply refused (inr h) = h

-- nothing more was told
pub tells_none : (may : Type 0) (errors : Option (List ℕ)) → TellsMore may errors errors
tells_none may errors = inl (Keeps-refl errors)

-- where more may be told in one case it may in one that this leads to
pub tells_if : (one other : Type 0) (before after : Option (List ℕ)) → (one → other) → TellsMore one before after → TellsMore other before after
tells_if one other before after leads (inl h) = inl h
tells_if one other before after leads (inr h) = inr (leads h.0, h.1, h.2)

-- the status of a refusal
pub refused_status : (ended : Result Status RunFault) (status : ℕ) → status ≡ exit_status ended → ended ≡ Ok Refused → status ≡ 2
refused_status ended status known same = known ∙ ap exit_status same

module _ (Is : List ℕ → Reply → Type 0) where
  -- a fault before anything is written leaves the output as it was
  pub not_told : (fault : RunFault) (input left output : Option (List ℕ)) → fault ≢ Write → HasTold Is (Err fault) input left output output
  not_told Memory input left output known = Keeps-refl output
  not_told Read input left output known = Keeps-refl output
  not_told Write input left output known = absurd (known refl)

  -- a reply that was written, or a beginning of it
  told_by : (ended : Result Status RunFault) (bytes : List ℕ) (reply : Reply) (input left before after : Option (List ℕ))
      → IsReadFrom input left bytes → Is bytes reply
      → IfOk ended (λ status. (status ≡ reply.status) × Appends before after reply.output)
      → IfErr ended (λ fault. (fault ≡ Write) × AppendsFront before after reply.output)
      → HasTold Is ended input left before after
  told_by (Ok status) bytes reply input left before after read is whole front = (bytes, reply, read, is, sym whole.0, whole.1)
  told_by (Err Memory) bytes reply input left before after read is whole front = let same = front.0 in absurd cc
  told_by (Err Read) bytes reply input left before after read is whole front = let same = front.0 in absurd cc
  told_by (Err Write) bytes reply input left before after read is whole front = (bytes, reply, read, is, front.1)

  -- a run that ended before anything was written
  pub broken_run : (fault : RunFault) (status : ℕ) (input left output errors new : Option (List ℕ)) → fault ≢ Write
      → status ≡ exit_status (Err fault) → AreErrorsTold (Err fault) errors new
      → IsExplainedRunOf Is status (streams input output errors) (streams left output new)
  broken_run fault status input left output errors new known same told =
      (new, (Err fault, same, not_told fault input left output known, told), tells_none _ new)

  -- a run that came to a reply
  pub told_run : (bytes : List ℕ) (reply : Reply) (status : ℕ) (input left before after errors new : Option (List ℕ))
      → IsReadFrom input left bytes → Is bytes reply → IsReplyTold reply status before after errors new
      → IsExplainedRunOf Is status (streams input before errors) (streams left after new)
  told_run bytes reply status input left before after errors new read is h =
      (h.1, (h.0, h.2, told_by h.0 bytes reply input left before after read is h.3 h.4, h.5), h.6)
