use Rattle.std.proofs.Common.{◌∙◌, sym, arith, false, length}
use Rattle.propnet.specs.NetView.{gate_with}
use Rattle.propnet.specs.Nets.{gates_of}
use Rattle.propnet_tape.proofs.Marks.{closed_next, closed_skip, mark_read, reads_below}
use Rattle.propnet_tape.proofs.cones.close.Goals as goal

pub returns-then-not-index-clause-closed : goal.returns-then-not-index-clause-closed
returns-then-not-index-clause-closed c =
    closed_skip (gates_of c.args.net.now) c.args.n c.args.marks.now.items
    (mark_read c.args.marks.now.items c.args.n c.index.result.now false (omega (arith, c.requires.closed.count, c.requires.node)) c.index.ensures
    c.if-not-index.true)
    c.requires.closed

pub mark_terms-requires-clause-nodes : goal.mark_terms-requires-clause-nodes
mark_terms-requires-clause-nodes c =
    reads_below c.args.net.now.base (gates_of c.args.net.now) c.args.n (gate_with c.gate-name.result.0 c.gate-name.result.1.now)
    (length (gates_of c.args.net.now))
    c.args.net.now.in_order c.gate-name.ensures (omega (arith, c.requires.node))

pub returns-then-is_or-clause-closed : goal.returns-then-is_or-clause-closed
returns-then-is_or-clause-closed c =
    closed_next c.args.net.now.base (gates_of c.args.net.now) c.args.n c.gate-name.result.0 c.gate-name.result.1.now _ c.args.marks.now.items
    c.mark_terms.new.marks.items
    c.args.net.now.in_order c.gate-name.ensures (sym c.is_or.ensures ∙ c.if-is_or.true) c.requires.closed
    c.mark_terms.ensures.count c.mark_terms.ensures.marked c.mark_terms.ensures.more c.mark_terms.ensures.above

pub mark_all-requires : goal.mark_all-requires
mark_all-requires c =
    reads_below c.args.net.now.base (gates_of c.args.net.now) c.args.n (gate_with c.gate-name.result.0 c.gate-name.result.1.now)
    (length c.args.marks.now.items)
    c.args.net.now.in_order c.gate-name.ensures (omega (arith, c.requires.node, c.requires.closed.count))

pub returns-clause-closed : goal.returns-clause-closed
returns-clause-closed c =
    closed_next c.args.net.now.base (gates_of c.args.net.now) c.args.n c.gate-name.result.0 c.gate-name.result.1.now _ c.args.marks.now.items
    c.mark_all.new.marks.items
    c.args.net.now.in_order c.gate-name.ensures (sym c.is_or.ensures ∙ c.if-is_or.false) c.requires.closed
    c.mark_all.ensures.count c.mark_all.ensures.marked c.mark_all.ensures.more c.mark_all.ensures.above
