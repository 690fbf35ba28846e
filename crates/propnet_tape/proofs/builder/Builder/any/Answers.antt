use Rattle.std.proofs.Common.{arith}
use Rattle.propnet_tape.specs.Building.{slots_of}
use Rattle.propnet_tape.proofs.Folds.{any_literal, negations_within}
use Rattle.propnet_tape.proofs.builder.Builder.any.Goals as goal

pub all-requires-clause-literals : goal.all-requires-clause-literals
all-requires-clause-literals c =
    negations_within (slots_of c.args.self.now) c.args.queue.now.items c.negate_all.new.queue.items (omega (arith, c.requires.built.tape.pairs))
    c.negate_all.ensures c.requires.literals

pub returns-clause-value : goal.returns-clause-value
returns-clause-value c =
    any_literal c.args.self.now c.all.new.self c.args.queue.now.items c.negate_all.new.queue.items c.in_ok-none.none c.negation.result
    c.requires.built c.all.ensures.step.built c.negate_all.ensures c.in_ok-none.ensures.value c.negation.ensures
