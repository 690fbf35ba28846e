use Rattle.meaning.specs.Derivable.{HoldsWhole}
use Rattle.meaning.proofs.Strata.{stable}
use Rattle.meaning.proofs.Heights.{stable_by_a_rule}
use Rattle.meaning.proofs.whole_laws.what_holds_has_a_rule.Goals as goal

pub returns : goal.returns
returns c = λ rules strata S J x. stable_by_a_rule rules S J (HoldsWhole rules S J) (stable rules S J strata.0 strata.1) x
