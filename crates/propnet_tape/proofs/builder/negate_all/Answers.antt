use Rattle.std.proofs.Common.{rules, length-set}
use Rattle.propnet_tape.proofs.Folds.{one_negated, left_alone}
use Rattle.propnet_tape.proofs.builder.negate_all.Goals as goal

pub loop-i-preserved : goal.loop-i-preserved
loop-i-preserved c = record {
  count = rw length-set c.loop-i.invariant.count;
  done = one_negated c.args.queue.now.items c.loop-i.queue.items c.loop-i.i c.index.result.now c.negation.result (search rules) c.index.ensures
      c.negation.ensures
      c.loop-i.invariant.done c.loop-i.invariant.left;
  left = left_alone c.args.queue.now.items c.loop-i.queue.items c.loop-i.i c.negation.result c.loop-i.invariant.left;
}
