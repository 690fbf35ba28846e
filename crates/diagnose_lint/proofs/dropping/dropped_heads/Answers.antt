use Rattle.std.proofs.Common.{◌≡◌, sym, subst, rules}
use Rattle.std.specs.Prelude.{ℕ, List}
use Rattle.kif.specs.View.{trees_in}
use Rattle.rules.specs.RuleSetView.{rules_in}
use Rattle.diagnose_lint.specs.Owners.{AreOwners}
use Rattle.diagnose_lint.proofs.FindingLists.{true_of}
use Rattle.diagnose_lint.proofs.dropping.dropped_heads.Goals as goal

pub returns-clause-each : goal.returns-clause-each
returns-clause-each g c = λ same.
    let read : c.deref-2.result.now ≡ c.in_ok-owners.owners.items = search rules in
    true_of (rules_in c.args.rules.now) c.deref-2.result.now c.in_ok-found.ensures.0 _ c.in_ok-found.ensures.1 (trees_in c.args.items.now)
    (subst (λ (os : List ℕ). AreOwners (trees_in c.args.items.now) os) (sym read) c.in_ok-owners.ensures) same

pub returns-clause-once : goal.returns-clause-once
returns-clause-once g c = c.in_ok-found.ensures.1.once
