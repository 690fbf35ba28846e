use Rattle.std.proofs.Common.{arith}
use Rattle.util_digraph.proofs.SuccessorLemmas.{first_end, all_targets, targets_inside}
use Rattle.util_digraph.proofs.graph.Graph.successors.Goals as goal

pub returns-clause-all : goal.returns-clause-all
returns-clause-all c =
    all_targets _ _ c.args.self.now.before.items c.args.node _ c.args.self.now.linked (omega (arith, c.requires, c.args.self.now.ends.ok.0))
    c.index.ensures

pub returns-clause-inside : goal.returns-clause-inside
returns-clause-inside c =
    let l = c.args.self.now.linked in
    let end = first_end _ _ c.args.self.now.before.items c.args.node _ l (omega (arith, c.requires, c.args.self.now.ends.ok.0)) c.index.ensures in
    targets_inside c.args.self.now.arrows.items c.args.node c.index.result.now _ end.inside (λ k h. let t = l.to_in k h in
    omega (arith, t, c.args.self.now.ends.ok.0))
