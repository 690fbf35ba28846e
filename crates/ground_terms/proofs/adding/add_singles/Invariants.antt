use Rattle.std.proofs.Common.{drop}
use Rattle.rules_clauses.specs.Numbers.{word_at}
use Rattle.statement.specs.Meaning.{atom1}
use Rattle.ground_terms.proofs.AddingAtoms.{AddingEach}
use Rattle.ground_terms.proofs.adding.add_singles.Given as goal

abbrev pub invariant-loop-term : goal.invariant-loop-term
invariant-loop-term l = AddingEach l.fn.arena l.arena l.fn.atoms.keys l.atoms.keys (λ words t. atom1 (word_at words l.word) t) l.fn.terms
    (drop l.term-index l.terms)
