use Rattle.ground_terms.proofs.Written.{closed, spaced}
use Rattle.ground_terms.proofs.arena.Arena.write_next.Goals as goal

pub returns-in_ok-push-in-Closing-clause-writes : goal.returns-in_ok-push-in-Closing-clause-writes
returns-in_ok-push-in-Closing-clause-writes c = rw c.in-Closing.is (closed _ _ _ _ _ c.in_ok-push-in-Closing.ensures.items)

pub returns-in_ok-begin_term-in-Term-clause-writes : goal.returns-in_ok-begin_term-in-Term-clause-writes
returns-in_ok-begin_term-in-Term-clause-writes c = rw c.in-Term.is
    (spaced _ _ _ _ _ _ _ _ c.in_ok-push-in-Term.ensures.items c.in_ok-begin_term-in-Term.ensures)
