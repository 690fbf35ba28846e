use Rattle.std.proofs.Common.{sym, ◌∙◌}
use Rattle.position.proofs.LaneLemmas.{told_ended, told_open}
use Rattle.position.proofs.net_taking.net_told.Goals as goal

pub returns-in-Some : goal.returns-in-Some
returns-in-Some c = told_ended _ _ _ (sym c.in-Some.is ∙ c.end_in.ensures)

pub returns-in-None : goal.returns-in-None
returns-in-None c = told_open _ _ (sym c.in-None.is ∙ c.end_in.ensures)
