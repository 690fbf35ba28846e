use Rattle.std.proofs.Common.{◌≡◌, ◌++◌, length, drop}
use Rattle.ground_terms.specs.Stated.{second_parts}
use Rattle.rules_clauses.specs.Marks.{NumbersBelow}
use Rattle.ground_terms.proofs.stating.add_second_parts.Given as goal

abbrev pub invariant-loop-atom : goal.invariant-loop-atom
invariant-loop-atom l =
    (l.fn.terms.items ++ second_parts l.arena.keys l.word l.role l.fn.atoms ≡ l.terms.items ++ second_parts l.arena.keys l.word l.role
    (drop l.atom-index l.atoms))
    × NumbersBelow (length l.arena.keys) (drop l.atom-index l.atoms)
