use Rattle.std.proofs.Common.{◌≡◌, ◌++◌, map, drop}
use Rattle.rules.specs.RuleSets.{texts_of}
use Rattle.ground_terms.specs.Vectors.{items_of}
use Rattle.ground_rows.specs.Contexts.{texts_named}
use Rattle.ground.proofs.tables.texts_of_lists.Given as goal

abbrev pub invariant-loop-list : goal.invariant-loop-list
invariant-loop-list l =
    map (λ v. texts_of v.items) l.texts.items ++ map texts_named (items_of (drop l.list-index l.lists)) ≡ map texts_named (items_of l.fn.lists)
