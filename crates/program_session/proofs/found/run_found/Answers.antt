use Rattle.std.proofs.Common.{inl, inr, List, ℕ, subst, sym}
use Rattle.program_searches.specs.Replies.{reply_of}
use Rattle.unroll.specs.Written.{IsWrittenFor}
use Rattle.program_unroll.specs.Unrolled.{RefusesToUnroll}
use Rattle.program_unroll.proofs.Facts.{written_by, refused_by, broken_run, told_run}
use Rattle.program_session.proofs.found.run_found.Goals as goal

pub returns-in-Err-clause-run : goal.returns-in-Err-clause-run
returns-in-Err-clause-run g c =
    inr (broken_run RefusesToUnroll c.in-Err.fault c.status_of.result _ _ _ _ _ c.in-Err.ensures.fault c.status_of.ensures.status c.status_of.ensures.told)

pub returns-in-Answer-clause-run : goal.returns-in-Answer-clause-run
returns-in-Answer-clause-run g c =
    let read = c.in-Ok.ensures.reply in
    let written = written_by c.args.bounds c.in-Ok.told.bytes.items (reply_of c.in-Ok.told.reply) c.in-Answer.is read.1 in
    let same : IsWrittenFor c.args.bounds c.in-Ok.told.bytes.items c.as_slice-written.result.now =
    subst (λ (out : List ℕ). IsWrittenFor c.args.bounds c.in-Ok.told.bytes.items out) (sym c.as_slice-written.ensures.value) written in
    inl (c.in-Ok.told.bytes.items, c.as_slice-written.result.now, _, read.0, same, c.run_explained.ensures)

pub returns-clause-run : goal.returns-clause-run
returns-clause-run g c =
    let read = c.in-Ok.ensures.reply in
    let refuses = refused_by c.args.bounds c.in-Ok.told.bytes.items (reply_of c.in-Ok.told.reply) c.in-Refused.is read.1 in
    inr (told_run RefusesToUnroll c.in-Ok.told.bytes.items (reply_of c.in-Ok.told.reply) c.write_told.result _ _ _ _ _ _ read.0 refuses c.write_told.ensures.told)
