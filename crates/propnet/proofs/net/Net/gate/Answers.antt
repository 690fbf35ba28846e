use Rattle.std.proofs.Common.{◌-◌, ℕ, List, ◌<◌, Some, length, slice_range, sym, ◌∙◌, ap, arith}
use Rattle.statement.specs.declared.node_name.Name.{Name}
use Rattle.propnet.specs.NetView.{gate_with}
use Rattle.propnet.proofs.Order.{here_is}
use Rattle.propnet.proofs.Pushes.{length-gates}
use Rattle.propnet.proofs.net.Net.gate.Goals as goal

pub index-node-requires : goal.index-node-requires
index-node-requires c =
    let nodes = c.args.self.now.nodes in
    let same = length-gates nodes.list.items nodes.operands.items in
    let size = nodes.list.ok.0 in
    let below = c.requires in
    omega arith

pub reads-requires-clause-counted : goal.reads-requires-clause-counted
reads-requires-clause-counted c =
    let net = c.args.self.now in
    let same = length-gates net.nodes.list.items net.nodes.operands.items in
    let below = c.requires in
    let lt : c.args.n < length net.nodes.list.items = omega arith in
    (here_is net.base net.nodes.list.items net.nodes.operands.items c.args.n c.index-node.result.now net.nodes.laid net.in_order lt
    c.index-node.ensures).laid.counted

pub reads-requires-clause-within : goal.reads-requires-clause-within
reads-requires-clause-within c =
    let net = c.args.self.now in
    let same = length-gates net.nodes.list.items net.nodes.operands.items in
    let below = c.requires in
    let lt : c.args.n < length net.nodes.list.items = omega arith in
    let here = here_is net.base net.nodes.list.items net.nodes.operands.items c.args.n c.index-node.result.now net.nodes.laid
    net.in_order lt c.index-node.ensures in
    let inside = here.laid.within in
    let operands = ap length c.deref.ensures.value in
    omega arith

pub returns : goal.returns
returns c =
    let net = c.args.self.now in
    let same = length-gates net.nodes.list.items net.nodes.operands.items in
    let below = c.requires in
    let lt : c.args.n < length net.nodes.list.items = omega arith in
    let node = c.index-node.result.now in
    let here = here_is net.base net.nodes.list.items net.nodes.operands.items c.args.n node net.nodes.laid net.in_order lt
    c.index-node.ensures in
    here.is
    ∙ ap (λ (xs : List ℕ). Some (gate_with node.name xs))
    (sym (c.reads.ensures ∙ ap (λ (os : List ℕ). slice_range os (node.end - node.count) node.end) c.deref.ensures.value))
    ∙ ap (λ (x : Name). Some (gate_with x c.reads.result.now)) (sym c.name.ensures)
