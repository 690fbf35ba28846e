use Rattle.std.proofs.Common.{◌≡◌, ◌≤◌, ◌+◌, length, map, drop}
use Rattle.ground_terms.specs.Dropping.{dropped_in}
use Rattle.rules_clauses.specs.Marks.{NumbersBelow}
use Rattle.ground_terms.proofs.dropping.count_dropped.Given as goal

abbrev pub invariant-loop-atom : goal.invariant-loop-atom
invariant-loop-atom l =
    (l.count ≤ l.atom-index)
    × (NumbersBelow (length l.arena.keys) (drop l.atom-index l.atoms)
    × (l.count + dropped_in l.arena.keys l.words l.bases.keys l.roles.keys (map (λ s. s.keys) l.inputs) (drop l.atom-index l.atoms)
    ≡ dropped_in l.fn.arena.keys l.fn.words l.fn.bases.keys l.fn.roles.keys (map (λ s. s.keys) l.fn.inputs) l.fn.atoms))
