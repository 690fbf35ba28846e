use Rattle.rules.specs.RuleSetView.{rules_in}
use Rattle.diagnose_lint.specs.DroppedFindings.{AreFindings}
use Rattle.diagnose_lint.proofs.dropping.findings_of.Given as goal

abbrev pub invariant-loop-candidate : goal.invariant-loop-candidate
invariant-loop-candidate l = AreFindings (rules_in l.rules) l.owners l.findings.next l.findings.found.items
