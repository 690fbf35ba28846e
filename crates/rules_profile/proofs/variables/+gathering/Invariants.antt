use Rattle.std.proofs.Common.{◌++◌, ◌≤◌, length, drop}
use Rattle.statement.specs.Tree.{trees_of}
use Rattle.kif.specs.View.{tree_of, trees_in}
use Rattle.rules_profile.specs.Names.{names_behind, HasSameNames, NamesOnce}
use Rattle.statement.specs.Safety.{variables_in}
use Rattle.statement.specs.RuleLimits.{most_variables}
use Rattle.rules_profile.proofs.Sizes.{tree_size, trees_size}
use Rattle.rules_profile.proofs.variables.+gathering.Given as goal

abbrev pub decreases-gather : goal.decreases-gather
decreases-gather g l = tree_size (tree_of l.e.now)

abbrev pub decreases-gather_all : goal.decreases-gather_all
decreases-gather_all g l = trees_size (trees_in l.parts.now)

abbrev pub invariant-gather_all-loop-part : goal.invariant-gather_all-loop-part
invariant-gather_all-loop-part g l =
    HasSameNames (variables_in (trees_of (trees_in (drop l.part-index l.parts))) ++ names_behind l.seen.items)
    (variables_in (trees_of (trees_in l.parts)) ++ names_behind l.fn.seen.items)
    × NamesOnce (names_behind l.seen.items)
    × (length l.seen.items ≤ most_variables)
