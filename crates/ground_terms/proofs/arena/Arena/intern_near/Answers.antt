use Rattle.ground_terms.proofs.KeyNumbers.{with_known}
use Rattle.ground_terms.proofs.arena.Arena.intern_near.Goals as goal

pub returns-in-Some-clause-kept : goal.returns-in-Some-clause-kept
returns-in-Some-clause-kept c = with_known _ _ c.in-Some.number c.in-Some.ensures.found.0 c.in-Some.ensures.found.1
