use Rattle.std.proofs.Common.{arith}
use Rattle.rules_profile.proofs.Facts.{tree_is_word, rest_smaller, part_smaller}
use Rattle.diagnose_explain.proofs.variables.+binding.Goals as goal

pub gather_bound-gather_all_bound-requires : goal.gather_bound-gather_all_bound-requires
gather_bound-gather_all_bound-requires g t c κs within =
    let h = tree_is_word _ _ _ _ _ c.in-List.is c.deref.ensures.value c.in-Some.ensures in
    let k = rest_smaller _ _ _ h in
    (omega (arith, k, c.decreases), within)

pub gather_all_bound-gather_bound-requires : goal.gather_all_bound-gather_bound-requires
gather_all_bound-gather_bound-requires g t c κs within =
    let k = part_smaller _ _ _ c.loop-part-test.true c.part-item.is in
    (omega (arith, k, c.decreases), within)
