use Rattle.program_words.specs.Asked.{query_of}
use Rattle.program_run.proofs.Telling.{written, tells_if, replied_is_answered}
use Rattle.program_run.specs.Ran.{ended_of}
use Rattle.program_run.proofs.explained.run_explained.Goals as goal

pub returns : goal.returns
returns g c =
    let ran = c.run-ran.result in (
      g.E.Write.contents c.status_of-status.new.errors,
      (
        c.ended.result,
        c.status_of-status.ensures.status,
        rw c.ended.ensures (written (query_of c.args.command.now) ran _ _ _ _ c.run-ran.ensures.answers c.run-ran.ensures.silent c.run-ran.ensures.broken),
        c.status_of-status.ensures.told,
      ),
      tells_if _ _ (replied_is_answered c.ended.result (ended_of ran) _ c.status_of-status.ensures.status c.ended.ensures) c.comment_on.ensures,
    )
