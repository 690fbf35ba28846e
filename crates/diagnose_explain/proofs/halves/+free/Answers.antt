use Rattle.std.proofs.Common.{arith}
use Rattle.rules_profile.proofs.Facts.{tree_is_word, rest_smaller, part_smaller}
use Rattle.diagnose_explain.proofs.halves.+free.Goals as goal

pub leaves_free-some_leaves_free-requires : goal.leaves_free-some_leaves_free-requires
leaves_free-some_leaves_free-requires g t c κs within =
    let h = tree_is_word _ _ _ _ _ c.in-List.is c.deref.ensures.value c.in-Some.ensures in
    let k = rest_smaller _ _ _ h in
    (omega (arith, k, c.decreases), within)

pub leaves_free-all_leave_free-requires : goal.leaves_free-all_leave_free-requires
leaves_free-all_leave_free-requires g t c κs within =
    let h = tree_is_word _ _ _ _ _ c.in-List.is c.deref.ensures.value c.in-Some.ensures in
    let k = rest_smaller _ _ _ h in
    (omega (arith, k, c.decreases), within)

pub some_leaves_free-leaves_free-requires : goal.some_leaves_free-leaves_free-requires
some_leaves_free-leaves_free-requires g t c κs within =
    let k = part_smaller _ _ _ c.loop-part-test.true c.part-item.is in
    (omega (arith, k, c.decreases), within)

pub all_leave_free-leaves_free-requires : goal.all_leave_free-leaves_free-requires
all_leave_free-leaves_free-requires g t c κs within =
    let k = part_smaller _ _ _ c.loop-part-test.true c.part-item.is in
    (omega (arith, k, c.decreases), within)
