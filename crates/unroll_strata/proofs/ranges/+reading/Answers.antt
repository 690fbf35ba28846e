use Rattle.std.proofs.Common.{sym, ap, ◌∙◌, arith}
use Rattle.rules_profile.proofs.Facts.{tree_is_slice, part_smaller}
use Rattle.unroll_strata.specs.Ranges.{has_reading}
use Rattle.unroll_strata.proofs.RangeLemmas.{no_word, one_read, one_passed, each_read, one_missed}
use Rattle.unroll_strata.proofs.ranges.+reading.Goals as goal

pub is_readable-returns-in-None : goal.is_readable-returns-in-None
is_readable-returns-in-None g t c =
    sym (ap has_reading (tree_is_slice _ _ _ c.in-List.is c.deref.ensures.value) ∙ no_word _ c.in-None.ensures)

pub is_one_readable-is_readable-requires : goal.is_one_readable-is_readable-requires
is_one_readable-is_readable-requires g t c κs within =
    let k = part_smaller _ _ _ c.loop-part-test.true c.part-item.is in
    (omega (arith, k, c.decreases), within)

pub is_one_readable-returns-then-is_readable : goal.is_one_readable-returns-then-is_readable
is_one_readable-returns-then-is_readable g t c =
    sym (c.loop-part.invariant ∙ one_read _ _ _ c.loop-part-test.true c.part-item.is (sym c.if-is_readable.ensures))

pub is_one_readable-loop-part-preserved : goal.is_one_readable-loop-part-preserved
is_one_readable-loop-part-preserved g t c =
    c.loop-part.invariant ∙ one_passed _ _ _ c.loop-part-test.true c.part-item.is (sym c.if-is_readable.ensures)

pub are_all_readable-is_readable-requires : goal.are_all_readable-is_readable-requires
are_all_readable-is_readable-requires g t c κs within =
    let k = part_smaller _ _ _ c.loop-part-test.true c.part-item.is in
    (omega (arith, k, c.decreases), within)

pub are_all_readable-returns-then-not-is_readable : goal.are_all_readable-returns-then-not-is_readable
are_all_readable-returns-then-not-is_readable g t c =
    sym (c.loop-part.invariant ∙ one_missed _ _ _ c.loop-part-test.true c.part-item.is (sym c.if-not-is_readable.ensures))

pub are_all_readable-loop-part-preserved : goal.are_all_readable-loop-part-preserved
are_all_readable-loop-part-preserved g t c =
    c.loop-part.invariant ∙ each_read _ _ _ c.loop-part-test.true c.part-item.is (sym c.if-not-is_readable.ensures)
