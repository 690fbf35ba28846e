use Rattle.std.proofs.Common.{◌≡◌, ◌++◌, length, drop}
use Rattle.ground_terms.specs.Stated.{only_parts}
use Rattle.rules_clauses.specs.Marks.{NumbersBelow}
use Rattle.ground_terms.proofs.stating.add_only_parts.Given as goal

abbrev pub invariant-loop-atom : goal.invariant-loop-atom
invariant-loop-atom l =
    (l.fn.terms.items ++ only_parts l.arena.keys l.word l.fn.atoms ≡ l.terms.items ++ only_parts l.arena.keys l.word (drop l.atom-index l.atoms))
    × NumbersBelow (length l.arena.keys) (drop l.atom-index l.atoms)
