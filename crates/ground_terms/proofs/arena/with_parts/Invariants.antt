use Rattle.ground_terms.proofs.Lengths.{Adding}
use Rattle.ground_terms.proofs.arena.with_parts.Given as goal

abbrev pub invariant-loop-part : goal.invariant-loop-part
invariant-loop-part l = Adding l.lengths l.before l.parts l.part-index l.total
