use Rattle.std.proofs.Common.{suc, min, length, List, sym, ap, ◌∙◌, arith}
use Rattle.statement.specs.Clause.{Literal}
use Rattle.statement.specs.Items.{readings}
use Rattle.statement.specs.RuleLimits.{most_alternatives}
use Rattle.rules_profile.proofs.FormTests.{tree_is_slice}
use Rattle.rules_profile.proofs.Sizes.{part_smaller}
use Rattle.rules_profile.proofs.Counts.{no_word_no_reading, readings_in_turn-more, readings_of_all-more, sum_more, product_more}
use Rattle.rules_profile.proofs.limits.+alternatives.Goals as goal

pub count_readings-returns-in-None : goal.count_readings-returns-in-None
count_readings-returns-in-None g t c =
    sym (ap (λ ts. min (suc most_alternatives) (length (readings ts))) (tree_is_slice _ _ _ c.in-List.is c.deref.ensures.value)
    ∙ ap (λ (bs : List (List Literal)). min (suc most_alternatives) (length bs)) (no_word_no_reading _ c.in-None.ensures))

pub count_readings_in_turn-count_readings-requires : goal.count_readings_in_turn-count_readings-requires
count_readings_in_turn-count_readings-requires g t c κs within =
    let k = part_smaller _ _ _ c.loop-part-test.true c.part-item.is in
    (omega (arith, k, c.decreases), within)

pub count_readings_in_turn-loop-part-preserved : goal.count_readings_in_turn-loop-part-preserved
count_readings_in_turn-loop-part-preserved g t c =
    let more = readings_in_turn-more _ _ _ c.loop-part-test.true c.part-item.is in
    (sum_more _ _ _ _ _ _ _ c.loop-part.invariant.0 more c.count_readings.ensures c.min-count.ensures, (let k = c.min-count.ensures in omega arith))

pub count_readings_of_all-count_readings-requires : goal.count_readings_of_all-count_readings-requires
count_readings_of_all-count_readings-requires g t c κs within =
    let k = part_smaller _ _ _ c.loop-part-test.true c.part-item.is in
    (omega (arith, k, c.decreases), within)

pub count_readings_of_all-loop-part-preserved : goal.count_readings_of_all-loop-part-preserved
count_readings_of_all-loop-part-preserved g t c =
    let more = readings_of_all-more _ _ _ c.loop-part-test.true c.part-item.is in (
      product_more _ _ _ _ _ _ _ c.loop-part.invariant.0 more c.count_readings.ensures c.min-count.ensures,
      (let k = c.min-count.ensures in omega arith),
    )
