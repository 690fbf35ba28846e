use Rattle.std.proofs.Common.{arith}
use Rattle.util_digraph.proofs.GroupLemmas.{numbered_walk}
use Rattle.util_digraph.proofs.components.components_of.Goals as goal

pub returns : goal.returns
returns c =
    let len = c.args.graph.now.ends.ok.0 in
    numbered_walk _ _ _ c.args.graph.now.linked _ c.loop-root.walk _ len
    (omega (arith, len, c.loop-root-test.false, c.len-root-end.ensures, c.loop-root.auto.root-end)) c.loop-root.invariant.walk
    c.loop-root.invariant.idle
