use Rattle.std.proofs.Common.{◌≡◌, drop}
use Rattle.statement.specs.Tree.{trees_of}
use Rattle.kif.specs.View.{tree_of, trees_in}
use Rattle.rules_profile.specs.Standing.{literals_of_all}
use Rattle.rules_profile.proofs.Facts.{tree_size, trees_size}
use Rattle.rules_relations.specs.Probes.{passes, some_of}
use Rattle.rules_relations.proofs.literals.+looking.Given as goal

abbrev pub decreases-some_in : goal.decreases-some_in
decreases-some_in g l = tree_size (tree_of l.e.now)

abbrev pub decreases-some_in_all : goal.decreases-some_in_all
decreases-some_in_all g l = trees_size (trees_in l.parts.now)

abbrev pub invariant-some_in_all-loop-part : goal.invariant-some_in_all-loop-part
invariant-some_in_all-loop-part g l =
    some_of (passes l.probe l.wanted l.count) (literals_of_all (trees_of (trees_in l.parts)))
    ≡ some_of (passes l.probe l.wanted l.count) (literals_of_all (trees_of (trees_in (drop l.part-index l.parts))))
