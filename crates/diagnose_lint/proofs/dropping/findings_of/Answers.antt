use Rattle.std.proofs.Common.{sym, subst}
use Rattle.rules.specs.RuleSetView.{rules_in}
use Rattle.diagnose_lint.specs.DroppedFindings.{AreFindings}
use Rattle.diagnose_lint.proofs.FindingLists.{no_findings}
use Rattle.diagnose_lint.proofs.dropping.findings_of.Goals as goal

pub loop-candidate-init : goal.loop-candidate-init
loop-candidate-init c =
    subst (λ ds. AreFindings (rules_in c.args.rules.now) c.args.owners.now 0 ds) (sym c.new.ensures.items)
    (no_findings (rules_in c.args.rules.now) c.args.owners.now)
