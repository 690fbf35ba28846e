use Rattle.std.proofs.Common.{ap, inl, inr, refl, sym}
use Rattle.program_searches.specs.Replies.{reply_of}
use Rattle.program_run.specs.Linted.{status_of_lines}
use Rattle.program_run.proofs.reporting.refused.Goals as goal

pub returns-in-Refused : goal.returns-in-Refused
returns-in-Refused c = (reply_of c.in_ok-checked.checked, c.in_ok-checked.ensures, inl (c.in-Refused.is, refl))

pub returns-in-Answer : goal.returns-in-Answer
returns-in-Answer c = (
  reply_of c.in_ok-checked.checked,
  c.in_ok-checked.ensures,
  inr (c.in-Answer.is, ap status_of_lines (sym c.new.ensures.items)),
)
