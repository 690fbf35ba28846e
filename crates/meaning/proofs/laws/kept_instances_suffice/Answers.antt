use Rattle.meaning.proofs.KeptLaw.{kept_suffice}
use Rattle.meaning.proofs.laws.kept_instances_suffice.Goals as goal

pub returns : goal.returns
returns c = λ rules acyclic S J base input x. kept_suffice rules acyclic S J base input x
