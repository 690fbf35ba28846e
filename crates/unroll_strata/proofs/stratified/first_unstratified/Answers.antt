use Rattle.std.proofs.Common.{ℕ, List, sym, subst}
use Rattle.std.specs.Prelude.{All}
use Rattle.util_digraph.specs.declared.graph.Arrow.{Arrow}
use Rattle.util_digraph.specs.GraphView.{arrows_of, nodes_of}
use Rattle.kif.specs.View.{trees_in}
use Rattle.rules.specs.declared.item_links.Links.{Links}
use Rattle.rules.specs.ItemLinks.{LinksWithin, IsFirstSuch}
use Rattle.rules_profile.proofs.Facts.{if_ok}
use Rattle.unroll_strata.specs.Strata.{IsCrossed}
use Rattle.unroll_strata.proofs.CrossedLemmas.{heads_known, links_within, first_rests}
use Rattle.unroll_strata.proofs.stratified.first_unstratified.Goals as goal

pub first_crossed_link-requires : goal.first_crossed_link-requires
first_crossed_link-requires c =
    let known = c.in_ok-numbers.numbers in
    let items = trees_in c.args.items.now in
    let heads = heads_known known items c.in_ok-numbers.ensures in
    subst (λ (ls : List Links). All (LinksWithin (nodes_of c.in_ok-graph.graph)) ls) (sym c.deref.ensures.value)
    (subst (λ (n : ℕ). All (LinksWithin n) c.in_ok-negations.negations.items) (sym c.in_ok-graph.ensures.nodes)
    (links_within known items heads c.in_ok-negations.negations.items c.in_ok-negations.ensures))

pub returns : goal.returns
returns c =
    let known = c.in_ok-numbers.numbers in
    let items = trees_in c.args.items.now in
    let heads = heads_known known items c.in_ok-numbers.ensures in
    if_ok c.first_crossed_link.result _ _
    (λ found f. first_rests known items heads c.in_ok-negations.negations.items c.in_ok-negations.ensures found
    (subst (λ (as' : List Arrow). IsFirstSuch (IsCrossed as') c.in_ok-negations.negations.items found) c.in_ok-graph.ensures.arrows
    (subst (λ (ls : List Links). IsFirstSuch (IsCrossed (arrows_of c.in_ok-graph.graph)) ls found) c.deref.ensures.value f)))
    c.first_crossed_link.ensures
