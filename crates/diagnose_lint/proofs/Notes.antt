-- A finding that was tested is true at its place.
use Rattle.std.proofs.Common.{ℕ, ◌<◌, Bool, true, ◌≡◌, List, length, get_or, ap, ◌∙◌}
use Rattle.statement.specs.Tree.{Tree}
use Rattle.kif.specs.View.{tree_of, trees_in}
use Rattle.kif.specs.declared.expr.Expr.{Expr}
use Rattle.rules_relations.proofs.Facts.{item_there}
use Rattle.diagnose_lint.specs.declared.finding.Finding.{Finding}
use Rattle.diagnose_lint.specs.declared.whole.Whole.{Whole}
use Rattle.diagnose_lint.specs.Findings.{holds_of, holds_of_first, IsTrueNote}

pub true_there : {A : Type 0} (es : List (Expr A)) (n : ℕ) (e : Expr A) (f : Finding) → n < length es → e ≡ get_or es n e
    → holds_of (trees_in es) (tree_of e) f ≡ true → IsTrueNote (trees_in es) (record { place = n; finding = f })
true_there es n e f within is h = ap (λ (us : List Tree). holds_of_first (trees_in es) us f) (item_there es n e within is) ∙ h

-- what all items state and ask is as it was, and something holds
pub record AreKept (old new : Whole) (P : Type 0) : Type 0 where
  pub same : new ≡ old
  pub notes : P

-- two things hold
pub record AreTrue (W P : Type 0) : Type 0 where
  pub whole : W
  pub notes : P
