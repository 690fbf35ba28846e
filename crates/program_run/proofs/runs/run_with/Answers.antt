use Rattle.std.proofs.Common.{◌≡◌, rules}
use Rattle.std.specs.Prelude.{Result, Ok, Err, IfErr}
use Rattle.program_words.specs.Asked.{query_of}
use Rattle.program_run.specs.Work.{reply_by}
use Rattle.program_streams.proofs.Facts.{replies_to}
use Rattle.program_run.proofs.runs.run_with.Goals as goal

if_err : {X E : Type 0} (r : Result X E) (P : E → Type 0) → ((e : E) → P e) → IfErr r P
if_err (Ok x) P f = tt
if_err (Err e) P f = f e

pub returns-clause-answers : goal.returns-clause-answers
returns-clause-answers g c =
    let reply = reply_by g.G.Game c.in-Ok.work in
    let read : c.deref.result.now ≡ c.in_ok-bytes.bytes.items = search rules in
    let told = c.in_ok-reply.ensures.whole in (
      reply.output,
      rw told.0 (replies_to (query_of c.args.command.now) _ _ c.in_ok-bytes.bytes.items reply c.in_ok-bytes.ensures.whole (rw (← read) c.in-Ok.ensures.reply)),
      told.1,
    )

pub returns-in_err-reply-clause-broken : goal.returns-in_err-reply-clause-broken
returns-in_err-reply-clause-broken g c =
    let reply = reply_by g.G.Game c.in-Ok.work in
    let read : c.deref.result.now ≡ c.in_ok-bytes.bytes.items = search rules in
    if_err c.from_residual-in_err-reply.result _
    (λ e is_write. (
      reply,
      replies_to (query_of c.args.command.now) _ _ c.in_ok-bytes.bytes.items reply c.in_ok-bytes.ensures.whole (rw (← read) c.in-Ok.ensures.reply),
      c.in_err-reply.ensures.front,
    ))

pub returns-clause-refused : goal.returns-clause-refused
returns-clause-refused g c = λ refused.
    let reply = reply_by g.G.Game c.in-Ok.work in
    let read : c.deref.result.now ≡ c.in_ok-bytes.bytes.items = search rules in
    let told = c.in_ok-reply.ensures.whole in
    let same = c.in_ok-reply.ensures.refused refused in (
      rw (same, told.0) (replies_to (query_of c.args.command.now) _ _ c.in_ok-bytes.bytes.items reply c.in_ok-bytes.ensures.whole (rw (← read) c.in-Ok.ensures.reply)),
      rw same told.1,
    )
