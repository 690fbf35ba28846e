use Rattle.std.proofs.Common.{arith, refl, ℕ, List, [], subst, sym, vec_len}
use Rattle.util_digraph.specs.Graph.{IsOrder}
use Rattle.util_digraph.specs.Walk.{Walking}
use Rattle.util_digraph.proofs.WalkLemmas.{ordered}
use Rattle.util_digraph.proofs.ranks.visit_all.Goals as goal

pub loop-root-init : goal.loop-root-init
loop-root-init c =
    let w = c.args.walk.now in
    record {
      walking = subst (λ (n : ℕ). Walking c.args.graph.now.arrows.items n 0 w.seen.items w.done.items w.ends.items [] w.order.items)
          c.args.graph.now.ends.ok.0
          (subst (λ (ps : List ℕ). Walking c.args.graph.now.arrows.items (vec_len c.args.graph.now.ends) 0 w.seen.items w.done.items w.ends.items ps
          w.order.items) c.requires.idle c.requires.walking);
      idle = c.requires.idle;
    }

pub returns : goal.returns
returns c =
    let len = c.args.graph.now.ends.ok.0 in
    let whole = c.loop-root-test.false in
    let nodes = c.len-root-end.ensures in
    subst (λ (n : ℕ). IsOrder c.args.graph.now.arrows.items n c.loop-root.walk.order.items) (sym len)
    (ordered _ _ _ _ _ _ _ _ (omega (arith, len, whole, nodes)) refl c.loop-root.invariant.walking)
