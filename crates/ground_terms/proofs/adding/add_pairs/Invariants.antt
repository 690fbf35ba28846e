use Rattle.std.proofs.Common.{drop}
use Rattle.rules_clauses.specs.Numbers.{word_at}
use Rattle.ground_terms.specs.Keys.{term_at, trees}
use Rattle.statement.specs.Meaning.{atom2}
use Rattle.ground_terms.proofs.AddingAtoms.{AddingEach}
use Rattle.ground_terms.proofs.adding.add_pairs.Given as goal

abbrev pub invariant-loop-term : goal.invariant-loop-term
invariant-loop-term l = AddingEach l.fn.arena l.arena l.fn.atoms.keys l.atoms.keys
    (λ words t. atom2 (word_at words l.word) (term_at (trees words l.fn.arena.keys) l.first) t) l.fn.terms (drop l.term-index l.terms)
