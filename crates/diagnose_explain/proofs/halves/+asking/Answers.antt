use Rattle.std.proofs.Common.{arith}
use Rattle.rules_profile.proofs.Facts.{tree_is_word, rest_smaller, part_smaller}
use Rattle.diagnose_explain.proofs.halves.+asking.Goals as goal

pub asks_free-some_asks_free-requires : goal.asks_free-some_asks_free-requires
asks_free-some_asks_free-requires g t c κs within =
    let h = tree_is_word _ _ _ _ _ c.in-List.is c.deref.ensures.value c.in-Some.ensures in
    let k = rest_smaller _ _ _ h in
    (omega (arith, k, c.decreases), within)

pub some_asks_free-asks_free-requires : goal.some_asks_free-asks_free-requires
some_asks_free-asks_free-requires g t c κs within =
    let k = part_smaller _ _ _ c.loop-part-test.true c.part-item.is in
    (omega (arith, k, c.decreases), within)
