use Rattle.std.proofs.Common.{◌≡◌, [], ◌++◌, map, drop}
use Rattle.ground_terms.specs.Vectors.{items_of}
use Rattle.ground_rows.specs.Contexts.{terms_named}
use Rattle.ground_terms.specs.Atoms.{with_numbers}
use Rattle.ground.proofs.tables.sets_of.Given as goal

abbrev pub invariant-loop-list : goal.invariant-loop-list
invariant-loop-list l =
    map (λ s. s.keys) l.sets.items ++ map (λ ns. with_numbers [] (terms_named ns)) (items_of (drop l.list-index l.lists))
    ≡ map (λ ns. with_numbers [] (terms_named ns)) (items_of l.fn.lists)
