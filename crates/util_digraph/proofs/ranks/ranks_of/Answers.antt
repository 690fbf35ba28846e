use Rattle.std.proofs.Common.{subst, ℕ, ◌∙◌, refl}
use mir.Val.{bool_byte}
use Rattle.util_digraph.specs.Graph.{IsOrder}
use Rattle.util_digraph.proofs.RankLemmas.{ranked_more, all_ranked, same_rank, byte_floor}
use Rattle.util_digraph.proofs.ranks.ranks_of.Goals as goal

pub loop-node-preserved : goal.loop-node-preserved
loop-node-preserved c =
    ranked_more _ _ _ _ _ _ _ (subst (λ (n : ℕ). IsOrder c.args.graph.now.arrows.items n c.args.order.now) c.args.graph.now.ends.ok.0
    c.requires.order)
    c.loop-node-test.true c.loop-node.invariant (same_rank _ _ _ _ _ _ _ c.deref.ensures.value (c.from.ensures
    ∙ byte_floor bool_byte refl refl _) c.rank_of.ensures)

pub returns : goal.returns
returns c =
    all_ranked _ _ _ _ _ _ (subst (λ (n : ℕ). IsOrder c.args.graph.now.arrows.items n c.args.order.now) c.args.graph.now.ends.ok.0 c.requires.order)
    (c.requires.rests ∙ c.args.graph.now.ends.ok.0) c.loop-node-test.false c.loop-node.invariant
