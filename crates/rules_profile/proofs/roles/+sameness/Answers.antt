use Rattle.std.proofs.Common.{sym, arith}
use Rattle.rules_profile.proofs.Sizes.{part_smaller}
use Rattle.rules_profile.proofs.RoleLists.{lengths_differ}
use Rattle.rules_profile.proofs.roles.+sameness.Goals as goal

pub are_same_trees-returns-then-ones-others : goal.are_same_trees-returns-then-ones-others
are_same_trees-returns-then-ones-others g t c = sym (lengths_differ c.args.ones.now c.args.others.now c.if-ones-others.true)

pub are_same_trees-is_same_tree-requires : goal.are_same_trees-is_same_tree-requires
are_same_trees-is_same_tree-requires g t c κs within =
    let k = part_smaller _ _ _ c.loop-index-test.true c.index-ones-index.is in
    (omega (arith, k, c.decreases), within)
