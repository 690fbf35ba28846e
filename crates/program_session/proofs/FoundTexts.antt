-- What is told over the text that is written for rules, or of its refusal, is told of the rules as they are found.
use Rattle.std.proofs.Common.{ℕ, ◌≡◌, inl, inr, List, subst, sym}
use Rattle.std.specs.Prelude.{Result, Ok, Err, IfOk}
use Rattle.statement.specs.Answers.{Reply}
use Rattle.statement.specs.declared.status.Status.TheVariants.{Answer, Refused}
use Rattle.statement.specs.declared.width.Width.TheVariants.{Wide}
use Rattle.program_streams.specs.Exits.{exit_status}
use Rattle.unroll_writer.specs.declared.written.Bounds.{Bounds}
use Rattle.unroll.specs.Written.{IsWrittenFor}
use Rattle.program_unroll.specs.Unrolled.{IsUnrollReply}
use Rattle.program_unroll.proofs.Facts.{written_by, refused_by}
use Rattle.program_session.specs.declared.answering.Told.{Told}
use Rattle.program_session.specs.Telling.{IsTold, IsToldFound}

pub told_written : {E : Type 0} (ranges : Bounds) (rules text : List ℕ) (reply : Reply) (r : Result Told E) → IsUnrollReply ranges rules reply
    → reply.status ≡ Answer
    → text ≡ reply.output → IfOk r (λ told. IsTold Wide text told.status told.bytes.items) → IfOk r (λ told. IsToldFound ranges rules told.status told.bytes.items)
told_written ranges rules text reply (Ok told) h answered same is =
    inl (text, subst (λ (out : List ℕ). IsWrittenFor ranges rules out) (sym same) (written_by ranges rules reply answered h), is)
told_written ranges rules text reply (Err e) h answered same is = tt

pub told_refused : {E : Type 0} (ranges : Bounds) (rules : List ℕ) (reply : Reply) (r : Result Told E) → IsUnrollReply ranges rules reply → reply.status ≡ Refused
    → IfOk r (λ told. told.status ≡ exit_status (Ok reply.status)) → IfOk r (λ told. told.bytes.items ≡ reply.output)
    → IfOk r (λ told. IsToldFound ranges rules told.status told.bytes.items)
told_refused ranges rules reply (Ok told) h refused status bytes = inr (reply, refused_by ranges rules reply refused h, status, bytes)
told_refused ranges rules reply (Err e) h refused status bytes = tt
