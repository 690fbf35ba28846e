use Rattle.std.proofs.Common.{true, ◌≡◌, List, map, rules, ap, subst, ◌∙◌}
use Rattle.statement.specs.Dependence.{is_among}
use Rattle.statement.specs.Items.{alternatives}
use Rattle.kif.specs.View.{trees_in}
use Rattle.rules_relations.specs.Relations.{relation_in}
use Rattle.rules_profile.proofs.Facts.{if_ok}
use Rattle.unroll.specs.Answers.{AreAnswered}
use Rattle.unroll.proofs.Claims.{on_true_map, true_on}
use Rattle.unroll.proofs.Transfers.{or_twice}
use Rattle.unroll.proofs.showing.is_played.Goals as goal

pub returns : goal.returns
returns g c =
    let items = trees_in c.args.played.now in
    let written = trees_in c.args.written.now in
    let set = c.in_ok-in_own.in_own in
    let fixed_so : c.in_ok-is_stated_alike.field-0 ≡ true = search (rules, c.if-not-branch.false) in
    let looked_so : c.in_ok-look_at_instances.field-0 ≡ true = search (rules, c.if-not-branch-2.false) in
    let fixed = true_on _ _ c.in_ok-is_stated_alike.ensures fixed_so in
    let ranges = true_on _ _ c.in_ok-look_at_instances.ensures.ranges looked_so in
    let adds = true_on _ _ c.in_ok-look_at_instances.ensures.layers looked_so in
    let all = c.look_at_instances.new.own.items in
    let same : map relation_in c.deref-3.result.now ≡ map relation_in all = ap (λ (rs : List _). map relation_in rs) c.deref-3.ensures.value in
    if_ok c.rewrites.result _ _ (λ is_so. on_true_map is_so _ _ (λ rewritten faultless strata.
    let answered : AreAnswered items written (map relation_in all) =
    adds (subst (λ (rs : List _). AreAnswered items written (map relation_in rs)) c.deref.ensures.value (fixed faultless)) in
    let by_set = c.what_is_answered_apart_is_answered_together.ensures (alternatives items) (alternatives written) (λ p. is_among p set)
    (λ p. is_among p (map relation_in all)) (λ p. is_among p (map relation_in all))
    (λ p. c.in_ok-in_own.ensures p ∙ (ap (λ (ps : List _). is_among p ps) same ∙ or_twice (is_among p (map relation_in all)))) answered answered in
    c.what_is_rewritten_is_played_the_same.ensures set items written faultless strata rewritten by_set ranges))
    c.rewrites.ensures
