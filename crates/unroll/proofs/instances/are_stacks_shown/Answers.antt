use Rattle.std.proofs.Common.{ℕ, suc, true, ◌≡◌, List, map, length, rules, subst, sym}
use Rattle.statement.specs.Clause.{Alternative}
use Rattle.statement.specs.Dependence.{is_among}
use Rattle.statement.specs.Items.{alternatives}
use Rattle.kif.specs.View.{trees_in}
use Rattle.rules_relations.specs.Relations.{relation_in}
use Rattle.rules_profile.proofs.Facts.{if_ok}
use Rattle.meaning.specs.Stacks.{IsStacked, IsEnough}
use Rattle.meaning.specs.Names.{names_of, word_in}
use Rattle.unroll.proofs.Claims.{on_true_map, true_on}
use Rattle.unroll.proofs.Transfers.{with_one_less}
use Rattle.unroll.proofs.instances.are_stacks_shown.Goals as goal

pub returns : goal.returns
returns c =
    let found = alternatives (trees_in c.args.items.now) in
    let written = alternatives (trees_in c.args.written.items.now) in
    let own = map relation_in c.args.own.now in
    let word = word_in own (names_of c.args.names.now) in
    let found_so : c.in_ok-is_stacked.field-0 ≡ true = search (rules, c.if-not-branch.false) in
    let stacked : IsStacked found written (λ p. is_among p own) word (length c.args.names.now) = true_on _ _ c.in_ok-is_stacked.ensures.says found_so in
    let well = c.accepted_items_are_well_formed.ensures (trees_in c.args.written.items.now) c.requires.faultless in
    if_ok c.is_enough.result _ _ (λ is_so. on_true_map is_so _ _ (λ bounds. with_one_less (length c.args.names.now) stacked.some _ (λ m is.
    let here : IsStacked found written (λ p. is_among p own) word (suc m) =
    subst (λ (n : ℕ). IsStacked found written (λ p. is_among p own) word n) is stacked in
    c.what_is_stacked_is_answered.ensures found written (λ p. is_among p own) word m well here
    (subst (λ (out : List Alternative). IsEnough out (λ p. is_among p own) word m) c.requires.same
    (bounds found m is (subst (λ (out : List Alternative). IsStacked found out (λ p. is_among p own) word (suc m)) (sym c.requires.same) here))))))
    c.is_enough.ensures
