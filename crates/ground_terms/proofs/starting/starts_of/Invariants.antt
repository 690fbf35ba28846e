use Rattle.std.proofs.Common.{◌≡◌, ◌++◌, map, drop}
use Rattle.ground_terms.specs.Starting.{starts_in}
use Rattle.ground_terms.proofs.starting.starts_of.Given as goal

abbrev pub invariant-loop-base : goal.invariant-loop-base
invariant-loop-base l = l.starts.items ++ map (starts_in l.arena.keys l.atoms.keys l.init) (drop l.base-index l.bases) ≡ map
    (starts_in l.fn.arena.keys l.fn.atoms.keys l.fn.init) l.fn.bases
