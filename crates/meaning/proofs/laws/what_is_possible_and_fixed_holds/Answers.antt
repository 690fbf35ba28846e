use Rattle.meaning.proofs.Possible.{always_kept, fixed_possible, kept_always}
use Rattle.meaning.proofs.laws.what_is_possible_and_fixed_holds.Goals as goal

pub returns-clause-heads : goal.returns-clause-heads
returns-clause-heads c = λ rules acyclic x fixed. (kept_always rules acyclic x fixed, always_kept rules acyclic x)

pub returns-clause-possible : goal.returns-clause-possible
returns-clause-possible c = λ rules acyclic x fixed other. fixed_possible rules acyclic x fixed other
