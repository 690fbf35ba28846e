use Rattle.std.proofs.Common.{inl, inr}
use Rattle.program_run.proofs.Telling.{tells_if}
use Rattle.program_run.proofs.explained.comment_on.Goals as goal

pub returns-then-is_refused : goal.returns-then-is_refused
returns-then-is_refused g c = tells_if _ _ (λ e. inl e) c.explain_ran.ensures

pub returns : goal.returns
returns g c = tells_if _ _ (λ e. inr e) c.warn_ran.ensures
