use Rattle.std.proofs.Common.{refl}
use Rattle.propnet.specs.Nets.{gates_of}
use Rattle.propnet_tape.specs.Terms.{terms_there}
use Rattle.propnet_tape.proofs.Meaning.{terms_more, added_size}
use Rattle.propnet_tape.proofs.gathering.add_terms.Goals as goal

pub loop-number-preserved : goal.loop-number-preserved
loop-number-preserved c =
    let more = c.in_ok-add_term.ensures.term in
    record {
      whole = c.in_ok-add_term.ensures.whole;
      size = added_size (terms_there c.loop-number.terms) (terms_there c.add_term.new.terms) more.term c.loop-number.number-index
          c.loop-number.invariant.size more.added;
      each = terms_more (gates_of c.args.net.now) c.args.literals.now c.args.numbers.now (terms_there c.loop-number.terms)
          (terms_there c.add_term.new.terms) c.loop-number.number-index _ more.term c.loop-number.invariant.size refl more.is more.added
          c.loop-number.invariant.each;
    }
