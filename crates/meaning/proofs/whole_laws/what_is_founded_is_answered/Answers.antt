use Rattle.meaning.proofs.Founding.{answered}
use Rattle.meaning.proofs.whole_laws.what_is_founded_is_answered.Goals as goal

pub returns : goal.returns
returns c = λ rules out own acyclic f.
    answered rules out own f acyclic (λ x fixed. c.what_is_possible_and_fixed_holds.ensures.heads out acyclic x fixed)
