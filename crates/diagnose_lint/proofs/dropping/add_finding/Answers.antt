use Rattle.std.proofs.Common.{◌≡◌, subst, arith}
use Rattle.std.specs.Prelude.{IfSome}
use Rattle.rules.specs.RuleSetView.{rules_in}
use Rattle.diagnose_lint.specs.DroppedFindings.{IsTrueBy}
use Rattle.diagnose_lint.proofs.FindingLists.{findings_more}
use Rattle.diagnose_lint.proofs.dropping.add_finding.Goals as goal

pub returns : goal.returns
returns c =
    let rules = rules_in c.args.rules.now in
    let place : c.in-Some.dropped.place ≡ c.args.candidate.place =
    subst (λ o. IfSome o (λ d. d.place ≡ c.args.candidate.place)) c.in-Some.is c.in_ok-dropped.ensures.place in
    let truth : IsTrueBy rules c.args.owners.now c.in-Some.dropped =
    subst (λ o. IfSome o (IsTrueBy rules c.args.owners.now)) c.in-Some.is c.in_ok-dropped.ensures.truth in
    let behind = c.if-candidate-findings.false in
    findings_more rules c.args.owners.now c.args.findings.now.next _ c.args.findings.now.found.items _ c.in-Some.dropped c.requires.findings truth
    (omega (arith, behind, place)) (omega (arith, place)) c.in_ok-push.ensures.items
