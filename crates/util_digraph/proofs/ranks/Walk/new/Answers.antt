use Rattle.std.proofs.Common.{◌∙◌, sym, subst, ℕ}
use Rattle.std.specs.List.{each_same}
use Rattle.util_digraph.specs.Walk.{Walking}
use Rattle.util_digraph.proofs.WalkLemmas.{fresh_walking}
use Rattle.util_digraph.proofs.ranks.Walk.new.Goals as goal

pub returns-clause-walking : goal.returns-clause-walking
returns-clause-walking c =
    let len = c.args.graph.now.ends.ok.0 in
    subst (λ (n : ℕ). Walking c.args.graph.now.arrows.items n 0 c.in_ok-seen.seen.items c.in_ok-done.done.items c.in_ok-ends.ends.items
    c.new.result.items c.new-2.result.items) (sym len)
    (fresh_walking _ _ _ c.args.graph.now.linked _ _ _ _ _ c.len-nodes.result (c.len-nodes.ensures ∙ len)
    (c.in_ok-seen.ensures.items_if_clones_equal (λ y e. e)) (c.in_ok-done.ensures.items_if_clones_equal (λ y e. e))
    (each_same _ _ c.in_ok-ends.ensures.cases.0) c.new.ensures.items c.new-2.ensures.items)
