use Rattle.std.proofs.Common.{rules, arith}
use Rattle.propnet.specs.Nets.{gates_of}
use Rattle.propnet_tape.proofs.Marks.{closed_none, all_stay}
use Rattle.propnet_tape.proofs.cones.cones.Goals as goal

pub loop-n-init : goal.loop-n-init
loop-n-init c = record {
  within = search rules;
  closed = closed_none (gates_of c.args.net.now) _ c.mark_all.new.marks.items (search rules) (search rules);
  kept = c.mark_all.ensures.marked;
}

pub loop-n-preserved : goal.loop-n-preserved
loop-n-preserved c = record {
  within = omega (arith, c.loop-n.invariant.within);
  closed = c.close.ensures.closed;
  kept = all_stay c.loop-n.marks.items c.close.new.marks.items c.args.kept.now c.close.ensures.more c.loop-n.invariant.kept;
}
