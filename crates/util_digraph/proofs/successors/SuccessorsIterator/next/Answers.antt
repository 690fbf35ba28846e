use Rattle.std.proofs.Common.{◌<◌, ap, length, arith, rules}
use Rattle.util_digraph.proofs.SuccessorLemmas.{next_target}
use Rattle.util_digraph.proofs.successors.SuccessorsIterator.next.Goals as goal

pub returns-clause-steps : goal.returns-clause-steps
returns-clause-steps c =
    let some : 0 < c.args.self.now.end = search rules in
    next_target _ c.args.self.now.graph.now.ends.items c.args.self.now.graph.now.before.items c.args.self.now.node c.args.self.now.end _ _
    c.args.self.now.graph.now.linked c.args.self.now.own some c.index-2.ensures c.index.ensures

pub returns-clause-goes : goal.returns-clause-goes
returns-clause-goes c =
    let some : 0 < c.args.self.now.end = search rules in
    let e = ap length (next_target _ c.args.self.now.graph.now.ends.items c.args.self.now.graph.now.before.items c.args.self.now.node
    c.args.self.now.end _ _
    c.args.self.now.graph.now.linked c.args.self.now.own some c.index-2.ensures c.index.ensures) in
    record { on = λ _. (tt, tt, omega (arith, e)); keeps = tt; rests = λ _. tt }
