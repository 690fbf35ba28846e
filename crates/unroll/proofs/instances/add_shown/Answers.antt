use Rattle.std.proofs.Common.{rules, ◌≡◌, map, true, List, ◌++◌, sym, ap, ◌∙◌}
use Rattle.statement.specs.Clause.{Relation}
use Rattle.statement.specs.Dependence.{is_among}
use Rattle.statement.specs.Items.{alternatives}
use Rattle.kif.specs.View.{trees_in}
use Rattle.rules_relations.specs.Relations.{relation_in}
use Rattle.unroll.proofs.Claims.{true_on}
use Rattle.unroll.proofs.Transfers.{among_both, map_both}
use Rattle.unroll.proofs.instances.add_shown.Goals as goal

pub returns : goal.returns
returns c =
    let found_so : c.in_ok-is_one_shown.field-0 ≡ true = search (rules, c.if-not-branch.false) in
    let shown = true_on _ _ c.in_ok-is_one_shown.ensures found_so in
    let old = c.args.own.now.items in
    let more = c.deref.result.now in
    let same : c.deref-2.result.now ≡ more = c.deref-2.ensures.value ∙ sym c.deref.ensures.value in
    let grown : c.extend_from_slice.new.self.items ≡ old ++ more = c.in_ok-extend_from_slice.ensures.items ∙ ap (λ (rs : List _). old ++ rs) same in
    λ answered. c.what_is_answered_apart_is_answered_together.ensures (alternatives (trees_in c.args.items.now))
    (alternatives (trees_in c.args.written.items.now)) _ _ _ (λ p. ap (λ (rs : List _). is_among p (map relation_in rs)) grown
    ∙ (ap (λ (ps : List Relation). is_among p ps) (map_both relation_in old more) ∙ among_both p (map relation_in old) (map relation_in more)))
    answered shown
