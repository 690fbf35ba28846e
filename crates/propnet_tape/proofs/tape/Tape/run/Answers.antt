use Rattle.std.proofs.Common.{length, arith}
use Rattle.propnet_tape.proofs.Facts.{order_within}
use Rattle.propnet_tape.proofs.Tapes.{run_values}
use Rattle.propnet_tape.proofs.tape.Tape.run.Goals as goal

pub fill_sources-requires-clause-below : goal.fill_sources-requires-clause-below
fill_sources-requires-clause-below c = rw c.deref.ensures.value c.args.self.now.sources_below

pub run_gates-requires-clause-operands : goal.run_gates-requires-clause-operands
run_gates-requires-clause-operands c =
    rw c.deref-2.ensures.value
    (order_within c.args.self.now.first c.args.self.now.gates.items (length c.fill_sources.new.room) c.args.self.now.ordered.in_order
    (omega (arith, c.requires, c.fill_sources.auto.room)))

pub returns : goal.returns
returns c = run_values c.args.self.now c.args.words.now c.fill_sources.new.room c.run_gates.new.room c.deref.result.now c.deref-2.result.now
    c.deref.ensures.value c.deref-2.ensures.value c.fill_sources.ensures.values c.run_gates.ensures.values
    (omega (arith, c.requires, c.fill_sources.auto.room, c.run_gates.auto.room))
