use Rattle.std.proofs.Common.{◌≡◌, ◌++◌, drop}
use Rattle.std.specs.Prelude.{map}
use Rattle.statement.specs.Tree.{trees_of}
use Rattle.kif.specs.View.{tree_of, trees_in}
use Rattle.rules_profile.specs.Standing.{literals_of_all}
use Rattle.rules_profile.proofs.Facts.{tree_size, trees_size}
use Rattle.rules_relations.specs.Relations.{relation_in}
use Rattle.rules_relations.specs.Asking.{relations_of}
use Rattle.rules_relations.proofs.asked.+gathering.Given as goal

abbrev pub decreases-gather : goal.decreases-gather
decreases-gather g l = tree_size (tree_of l.e.now)

abbrev pub decreases-gather_all : goal.decreases-gather_all
decreases-gather_all g l = trees_size (trees_in l.parts.now)

abbrev pub invariant-gather_all-loop-part : goal.invariant-gather_all-loop-part
invariant-gather_all-loop-part g l =
    map relation_in l.found.items ++ relations_of (literals_of_all (trees_of (trees_in (drop l.part-index l.parts))))
    ≡ map relation_in l.initial.found.items ++ relations_of (literals_of_all (trees_of (trees_in l.parts)))
