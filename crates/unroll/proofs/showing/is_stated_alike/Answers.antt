use Rattle.std.proofs.Common.{map, sym, ◌∙◌}
use Rattle.statement.specs.Dependence.{is_among}
use Rattle.statement.specs.Items.{alternatives}
use Rattle.kif.specs.View.{trees_in}
use Rattle.rules_relations.specs.Relations.{relation_in}
use Rattle.rules_profile.proofs.Facts.{if_ok, accepted_acyclic}
use Rattle.unroll.proofs.Claims.{on_true_map}
use Rattle.unroll.proofs.Transfers.{or_twice}
use Rattle.unroll.proofs.showing.is_stated_alike.Goals as goal

pub returns : goal.returns
returns g c =
    let found = alternatives (trees_in c.args.items.now) in
    let written = alternatives (trees_in c.args.written.now) in
    let set = c.in_ok-in_own.in_own in
    if_ok c.is_founded.result _ _ (λ is_so. on_true_map is_so _ _ (λ founded faultless.
    let answered = c.what_is_founded_is_answered.ensures found written (λ p. is_among p set) (accepted_acyclic (trees_in c.args.written.now) faultless)
    (founded faultless) in
    c.what_is_answered_apart_is_answered_together.ensures found written (λ p. is_among p (map relation_in c.args.own.now)) (λ p. is_among p set)
    (λ p. is_among p set) (λ p. sym (c.in_ok-in_own.ensures p) ∙ or_twice (is_among p set)) answered answered))
    c.is_founded.ensures
