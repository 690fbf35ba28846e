use Rattle.std.proofs.Common.{◌≡◌, ◌++◌, suc, drop, map}
use Rattle.kif.specs.View.{tree_of, trees_in}
use Rattle.rules_profile.proofs.Facts.{tree_size, trees_size}
use Rattle.unroll_strata.specs.Steps.{step_literal}
use Rattle.unroll_strata.proofs.literals.+stepping.Given as goal

abbrev pub decreases-literal : goal.decreases-literal
decreases-literal l = tree_size (tree_of l.e.now)

abbrev pub decreases-joined : goal.decreases-joined
decreases-joined l = suc (trees_size (trees_in l.parts.now))

abbrev pub decreases-add_literals : goal.decreases-add_literals
decreases-add_literals l = trees_size (trees_in l.parts.now)

abbrev pub invariant-add_literals-loop-part : goal.invariant-add_literals-loop-part
invariant-add_literals-loop-part l =
    trees_in l.made.items ++ map (step_literal l.own) (trees_in (drop l.part-index l.parts))
    ≡ trees_in l.initial.made.items ++ map (step_literal l.own) (trees_in l.parts)
