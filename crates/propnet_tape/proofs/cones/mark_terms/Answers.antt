use Rattle.std.proofs.Common.{◌<◌, ◌∙◌, get_or, refl, arith}
use Rattle.propnet.specs.Nets.{gates_of}
use Rattle.propnet_tape.proofs.Marks.{terms_next, all_terms}
use Rattle.propnet_tape.proofs.cones.mark_terms.Goals as goal

pub loop-number-preserved : goal.loop-number-preserved
loop-number-preserved c = record {
  count = c.mark_term.ensures.count ∙ c.loop-number.invariant.count;
  marked = terms_next (gates_of c.args.net.now) c.loop-number.marks.items c.mark_term.new.marks.items c.args.numbers.now c.loop-number.number-index _
      c.mark_term.ensures.more refl c.mark_term.ensures.marked c.loop-number.invariant.marked;
  more = λ m e. c.mark_term.ensures.more m (c.loop-number.invariant.more m e);
  above = λ n m a h.
      let x : get_or c.args.numbers.now c.loop-number.number-index 0 < n = a c.loop-number.number-index 0 c.loop-number-test.true in
      c.mark_term.ensures.above m (omega arith) ∙ c.loop-number.invariant.above n m a h;
}

pub returns-clause-marked : goal.returns-clause-marked
returns-clause-marked c = all_terms (gates_of c.args.net.now) c.loop-number.marks.items c.args.numbers.now c.loop-number.number-index
    c.loop-number-test.false c.loop-number.invariant.marked
