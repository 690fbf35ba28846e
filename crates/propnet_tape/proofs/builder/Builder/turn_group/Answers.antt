use Rattle.std.proofs.Common.{arith, rules}
use Rattle.propnet_tape.specs.Building.{slots_of}
use Rattle.propnet_tape.proofs.GateGroupLemmas.{turned, turned_below, written_back}
use Rattle.propnet_tape.proofs.builder.Builder.turn_group.Goals as goal

pub unmarked-requires-clause-small : goal.unmarked-requires-clause-small
unmarked-requires-clause-small c = let s = c.requires.built.tape.small in let w = c.requires.within in omega arith

pub returns-clause-literals : goal.returns-clause-literals
returns-clause-literals c = turned_below c.args.self.now c.any.new.self c.part.new.rest.items c.push.new.self.items c.in_ok-other.other
    c.negation.result
    c.any.ensures.step (c.in_ok-part.ensures.below (slots_of c.args.self.now) (rw c.deref.ensures.value c.requires.literals))
    c.in_ok-other.ensures.value.slot c.negation.ensures c.in_ok-push.ensures.items

pub returns-clause-value : goal.returns-clause-value
returns-clause-value c = λ bits one.
    turned c.args.self.now c.any.new.self c.args.group.from c.args.group.to c.args.queue.now.items c.part.new.rest.items c.push.new.self.items
    c.in_ok-others.others.items c.part.new.marks
    c.in_ok-other.other c.negation.result c.requires.built c.any.ensures.step (omega (arith, c.if-group.false)) c.requires.within (search rules)
    (λ w. rw c.deref.ensures.value at (c.in_ok-part.ensures.value w))
    (c.in_ok-part.ensures.below (slots_of c.args.self.now) (rw c.deref.ensures.value c.requires.literals))
    (λ w. rw (c.deref-2.ensures.value, written_back c.part.new.marks c.in_ok-marks.marks.items c.in_ok-marks.marks.len (search rules) (search rules))
    at (c.in_ok-others.ensures.value w)) c.in_ok-other.ensures.value c.negation.ensures c.in_ok-push.ensures.items bits one
    (c.requires.one bits one)
