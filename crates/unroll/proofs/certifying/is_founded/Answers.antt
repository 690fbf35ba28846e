use Rattle.std.proofs.Common.{ℕ, true, ◌≡◌, List, map, rules, sym, ap, subst, ◌∙◌}
use Rattle.std.specs.Bool.{OnTrue}
use Rattle.statement.specs.Tree.{Tree}
use Rattle.statement.specs.Clause.{Relation}
use Rattle.statement.specs.Dependence.{IsAmong, is_among}
use Rattle.statement.specs.GoalsAndMoves.{dropped}
use Rattle.statement.specs.Items.{alternatives}
use Rattle.statement.specs.Listing.{base_list}
use Rattle.statement.specs.Profile.{HasNoFault}
use Rattle.kif.specs.View.{trees_in}
use Rattle.rules_relations.specs.Relations.{relation_in}
use Rattle.rules_profile.proofs.Facts.{if_ok}
use Rattle.meaning.specs.Extension.{AreFounded}
use Rattle.unroll_strata.specs.Founded.{StandAlone, IsStepGame, IsReached}
use Rattle.unroll.proofs.Claims.{on_true_map, true_on}
use Rattle.unroll.proofs.SameRelations.{alone_as}
use Rattle.unroll.proofs.certifying.is_founded.Goals as goal

pub returns : goal.returns
returns g c =
    let found = trees_in c.args.found.now in
    let written = trees_in c.args.written.now in
    let game = trees_in c.deref.result.now in
    let made = ap trees_in c.deref.ensures.value ∙ c.in_ok-game.ensures in
    let own = c.args.in_own.now in
    let below = c.args.below.now in
    let found_so : c.in_ok-stand_alone.field-0 ≡ true = search (rules, c.if-not-branch.false) in
    let alone : StandAlone own below (alternatives found) (alternatives written) =
    alone_as own (map relation_in c.args.own.now) below (alternatives found) (alternatives written) c.requires
    (true_on _ _ c.in_ok-stand_alone.ensures found_so) in
    let steps : IsStepGame own below (alternatives found) (alternatives written) (alternatives game) =
    subst (λ (ts : List Tree). IsStepGame own below (alternatives found) (alternatives written) (alternatives ts)) (sym made)
    (c.step_games_have_their_rules.ensures own below found written) in
    if_ok c.comes_to_its_base.result _ _ (λ is_so. on_true_map is_so _ _
    (λ h faultless. c.what_play_comes_to_is_derived.ensures own below (alternatives found) (alternatives written) (alternatives game)
    (c.accepted_items_are_well_formed.ensures written faultless).acyclic (c.accepted_items_are_well_formed.ensures game h.0) alone steps h.1 h.2))
    c.comes_to_its_base.ensures
