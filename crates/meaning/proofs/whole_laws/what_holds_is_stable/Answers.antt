use Rattle.std.proofs.Common.{IsTrue}
use Rattle.meaning.proofs.Strata.{stable, only_stable}
use Rattle.meaning.proofs.whole_laws.what_holds_is_stable.Goals as goal

pub returns-clause-stable : goal.returns-clause-stable
returns-clause-stable c = λ rules strata S J. stable rules S J strata.0 strata.1

pub returns-clause-only : goal.returns-clause-only
returns-clause-only c = λ rules strata S J test law x. only_stable rules S J strata.0 strata.1 (λ y. IsTrue (test y)) law x
