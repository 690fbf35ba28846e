use Rattle.statement.specs.Meaning.{IsRight}
use Rattle.meaning.proofs.Derivations.{derived_by_a_rule, IsRight-local}
use Rattle.meaning.proofs.laws.holds_by_a_rule.Goals as goal

pub returns : goal.returns
returns c = λ rules acyclic S J x. derived_by_a_rule rules acyclic (IsRight S J) (IsRight-local S J) x
