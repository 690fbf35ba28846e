use Rattle.std.proofs.Common.{◌∙◌, sym, arith, length, suc}
use Rattle.propnet.specs.NetView.{gate_with}
use Rattle.propnet.specs.Nets.{gates_of}
use Rattle.propnet_tape.proofs.Marks.{term_marked, reads_below, only_below}
use Rattle.propnet_tape.proofs.cones.mark_term.Goals as goal

pub mark_all-requires : goal.mark_all-requires
mark_all-requires c =
    reads_below c.args.net.now.base (gates_of c.args.net.now) c.args.n (gate_with c.gate-name.result.0 c.gate-name.result.1.now)
    (length c.args.marks.now.items)
    c.args.net.now.in_order c.gate-name.ensures (omega (arith, c.requires.count, c.requires.node))

pub returns-then-is_and-clause-marked : goal.returns-then-is_and-clause-marked
returns-then-is_and-clause-marked c =
    term_marked (gates_of c.args.net.now) c.mark_all.new.marks.items c.args.n c.gate-name.result.0 c.gate-name.result.1.now _ c.gate-name.ensures
    (sym c.is_and.ensures ∙ c.if-is_and.true) c.mark_all.ensures.marked

pub returns-then-is_and-clause-above : goal.returns-then-is_and-clause-above
returns-then-is_and-clause-above c = λ m h. c.mark_all.ensures.above c.args.n m
    (reads_below c.args.net.now.base (gates_of c.args.net.now) c.args.n (gate_with c.gate-name.result.0 c.gate-name.result.1.now) c.args.n
    c.args.net.now.in_order c.gate-name.ensures (omega arith))
    (omega arith)

pub returns-clause-marked : goal.returns-clause-marked
returns-clause-marked c =
    term_marked (gates_of c.args.net.now) c.mark_all-2.new.marks.items c.args.n c.gate-name.result.0 c.gate-name.result.1.now _ c.gate-name.ensures
    (sym c.is_and.ensures ∙ c.if-is_and.false) c.mark_all-2.ensures.marked

pub returns-clause-above : goal.returns-clause-above
returns-clause-above c = λ m h. c.mark_all-2.ensures.above (suc c.args.n) m (only_below c.args.n (suc c.args.n) (omega arith)) (omega arith)
