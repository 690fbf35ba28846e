use Rattle.std.proofs.Common.{◌≡◌, rules}
use Rattle.std.specs.Prelude.{Result, Ok, Err, IfErr}
use Rattle.program_searches.specs.Replies.{reply_of}
use Rattle.program_run.proofs.linting.lint_keeping.Goals as goal

if_err : {X E : Type 0} (r : Result X E) (P : E → Type 0) → ((e : E) → P e) → IfErr r P
if_err (Ok x) P f = tt
if_err (Err e) P f = f e

pub returns-clause-answers : goal.returns-clause-answers
returns-clause-answers g c =
    let read : c.deref.result.now ≡ c.in_ok-bytes.bytes.items = search rules in
    let made : c.deref-2.result.now ≡ c.in-Ok.reply.output.items = search rules in
    (c.in_ok-bytes.ensures.whole, rw (← read) c.in-Ok.ensures, rw (← made) c.in_ok-write_out.ensures.whole)

pub returns-in_err-write_out-clause-broken : goal.returns-in_err-write_out-clause-broken
returns-in_err-write_out-clause-broken g c =
    let read : c.deref.result.now ≡ c.in_ok-bytes.bytes.items = search rules in
    let made : c.deref-2.result.now ≡ c.in-Ok.reply.output.items = search rules in
    if_err c.from_residual-in_err-write_out.result _
    (λ e is_write. (
      c.in_ok-bytes.bytes.items,
      reply_of c.in-Ok.reply,
      c.in_ok-bytes.ensures.whole,
      rw (← read) c.in-Ok.ensures,
      rw (← made) c.in_err-write_out.ensures.front,
    ))
