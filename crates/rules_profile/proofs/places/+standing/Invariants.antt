use Rattle.std.proofs.Common.{◌≡◌, drop}
use Rattle.statement.specs.Tree.{trees_of}
use Rattle.kif.specs.View.{tree_of, trees_in}
use Rattle.statement.specs.Profile.{body_stands_well}
use Rattle.rules_profile.specs.Standing.{literals_of_all}
use Rattle.rules_profile.proofs.Sizes.{tree_size, trees_size}
use Rattle.rules_profile.proofs.places.+standing.Given as goal

abbrev pub decreases-literal_may_stand : goal.decreases-literal_may_stand
decreases-literal_may_stand g l = tree_size (tree_of l.e.now)

abbrev pub decreases-literals_may_stand : goal.decreases-literals_may_stand
decreases-literals_may_stand g l = trees_size (trees_in l.parts.now)

abbrev pub invariant-literals_may_stand-loop-part : goal.invariant-literals_may_stand-loop-part
invariant-literals_may_stand-loop-part g l =
    body_stands_well (literals_of_all (trees_of (trees_in l.parts)))
    ≡ body_stands_well (literals_of_all (trees_of (trees_in (drop l.part-index l.parts))))
