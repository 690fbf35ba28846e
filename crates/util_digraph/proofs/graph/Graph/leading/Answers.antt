use Rattle.std.proofs.Common.{ℕ, List, subst, sym, arith}
use Rattle.std.proofs.lemmas.Result.{IfOk-weaker}
use Rattle.std.proofs.lemmas.Grind.{get_or_default_zero}
use Rattle.util_digraph.specs.Graph.{ArePlaces}
use Rattle.util_digraph.proofs.Turning.{leading, places_inside}
use Rattle.util_digraph.proofs.graph.Graph.leading.Goals as goal

pub reached-requires : goal.reached-requires
reached-requires c k d h =
    let places = subst (λ (x : List ℕ). ArePlaces c.args.goals.now x) (sym c.deref.ensures.value) c.in_ok-places.ensures in
    let inside = places_inside _ _ places k h in
    let same = get_or_default_zero c.deref.result.now k d h in
    omega (arith, inside, same, c.requires, c.in_ok-turned.ensures.nodes)

pub returns : goal.returns
returns c =
    let places = subst (λ (x : List ℕ). ArePlaces c.args.goals.now x) (sym c.deref.ensures.value) c.in_ok-places.ensures in
    IfOk-weaker _ _ _ (λ marks a. leading _ _ _ _ _ _ _ c.in_ok-turned.ensures.arrows (sym c.in_ok-turned.ensures.nodes) c.requires places a)
    c.reached.ensures
