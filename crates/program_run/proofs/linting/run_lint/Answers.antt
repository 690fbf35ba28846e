use Rattle.std.proofs.Common.{◌∙◌}
use Rattle.program_run.proofs.LintRuns.{linted}
use Rattle.program_run.proofs.Telling.{tells_if, refused_is_two}
use Rattle.program_run.proofs.linting.run_lint.Goals as goal

pub returns : goal.returns
returns g c =
    let ran = c.lint_keeping-ran.result in (
      c.ended.result,
      c.status_of-status.ensures.status,
      rw c.ended.ensures (linted ran _ _ _ _ c.lint_keeping-ran.ensures.answers c.lint_keeping-ran.ensures.silent c.lint_keeping-ran.ensures.broken),
      (
        g.E.Write.contents c.status_of-status.new.errors,
        c.status_of-status.ensures.told,
        tells_if _ _ (λ e. refused_is_two c.ended.result _ c.status_of-status.ensures.status (c.ended.ensures ∙ e)) c.explain_lint.ensures,
      ),
    )
