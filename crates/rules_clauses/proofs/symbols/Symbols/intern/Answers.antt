use Rattle.rules_clauses.proofs.NumberLemmas.{with_known}
use Rattle.rules_clauses.proofs.symbols.Symbols.intern.Goals as goal

pub returns-in-Some-clause-kept : goal.returns-in-Some-clause-kept
returns-in-Some-clause-kept c = with_known _ _ c.in-Some.number c.in-Some.ensures.0 c.in-Some.ensures.1
