use Rattle.std.proofs.Common.{arith, min, length, List, sym, ap, ◌∙◌}
use Rattle.statement.specs.Clause.{Literal}
use Rattle.statement.specs.Items.{readings}
use Rattle.rules_profile.proofs.Facts.{tree_is_word, tree_is_slice, rest_smaller, part_smaller}
use Rattle.diagnose_explain.specs.Counting.{most_counted}
use Rattle.diagnose_explain.proofs.CountedWays.{no_word_no_reading, readings_in_turn-more, readings_of_all-more, sum_more, product_more, within_most}
use Rattle.diagnose_explain.proofs.counts.+alternatives.Goals as goal

pub count_readings-returns-in-None : goal.count_readings-returns-in-None
count_readings-returns-in-None g t c =
    sym (ap (λ ts. min most_counted (length (readings ts))) (tree_is_slice _ _ _ c.in-List.is c.deref.ensures.value)
    ∙ ap (λ (bs : List (List Literal)). min most_counted (length bs)) (no_word_no_reading _ c.in-None.ensures))

pub count_readings-count_in_turn-requires : goal.count_readings-count_in_turn-requires
count_readings-count_in_turn-requires g t c κs within =
    let h = tree_is_word _ _ _ _ _ c.in-List.is c.deref.ensures.value c.in-Some.ensures in
    let k = rest_smaller _ _ _ h in
    (omega (arith, k, c.decreases), within)

pub count_readings-count_of_all-requires : goal.count_readings-count_of_all-requires
count_readings-count_of_all-requires g t c κs within =
    let h = tree_is_word _ _ _ _ _ c.in-List.is c.deref.ensures.value c.in-Some.ensures in
    let k = rest_smaller _ _ _ h in
    (omega (arith, k, c.decreases), within)

pub count_in_turn-count_readings-requires : goal.count_in_turn-count_readings-requires
count_in_turn-count_readings-requires g t c κs within =
    let k = part_smaller _ _ _ c.loop-part-test.true c.part-item.is in
    (omega (arith, k, c.decreases), within)

pub count_in_turn-loop-part-preserved : goal.count_in_turn-loop-part-preserved
count_in_turn-loop-part-preserved g t c =
    let more = readings_in_turn-more _ _ _ c.loop-part-test.true c.part-item.is in (
      sum_more most_counted _ _ _ _ _ _ _ c.loop-part.invariant.0 more c.count_readings.ensures c.sum_of-count.ensures,
      within_most most_counted _ _ c.sum_of-count.ensures,
    )

pub count_of_all-count_readings-requires : goal.count_of_all-count_readings-requires
count_of_all-count_readings-requires g t c κs within =
    let k = part_smaller _ _ _ c.loop-part-test.true c.part-item.is in
    (omega (arith, k, c.decreases), within)

pub count_of_all-loop-part-preserved : goal.count_of_all-loop-part-preserved
count_of_all-loop-part-preserved g t c =
    let more = readings_of_all-more _ _ _ c.loop-part-test.true c.part-item.is in (
      product_more most_counted _ _ _ _ _ _ _ c.loop-part.invariant.0 more c.count_readings.ensures c.product_of-count.ensures,
      within_most most_counted _ _ c.product_of-count.ensures,
    )
