use Rattle.std.proofs.Common.{refl, rules, length-set}
use Rattle.propnet_tape.proofs.Marks.{marked_more, marked_next, above_next, all_marked}
use Rattle.propnet_tape.proofs.cones.mark_all.Goals as goal

pub loop-number-preserved : goal.loop-number-preserved
loop-number-preserved c = record {
  count = rw length-set c.loop-number.invariant.count;
  marked = marked_next c.loop-number.marks.items c.args.numbers.now c.loop-number.number-index _ refl (search rules) c.loop-number.invariant.marked;
  more = λ m e. marked_more c.loop-number.marks.items _ (search rules) m (c.loop-number.invariant.more m e);
  above = λ n m a h. above_next c.args.marks.now.items c.loop-number.marks.items c.args.numbers.now c.loop-number.number-index n m (search rules) a h
      (c.loop-number.invariant.above n m a h);
}

pub returns-clause-marked : goal.returns-clause-marked
returns-clause-marked c = all_marked c.loop-number.marks.items c.args.numbers.now c.loop-number.number-index (search rules)
    c.loop-number.invariant.marked
