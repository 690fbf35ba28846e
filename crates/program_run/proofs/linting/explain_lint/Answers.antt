use Rattle.program_run.proofs.Telling.{tells_none}
use Rattle.program_run.proofs.linting.explain_lint.Goals as goal

pub returns-then-not-is_refused : goal.returns-then-not-is_refused
returns-then-not-is_refused g c = tells_none _
