use Rattle.std.proofs.Common.{true, ◌≡◌, List, map, length, rules, subst, sym}
use Rattle.statement.specs.Clause.{Alternative}
use Rattle.statement.specs.Dependence.{is_among}
use Rattle.statement.specs.Items.{alternatives}
use Rattle.kif.specs.View.{trees_in}
use Rattle.rules_relations.specs.Relations.{relation_in}
use Rattle.rules_profile.proofs.Facts.{if_ok}
use Rattle.meaning.specs.Layers.{IsLayered, IsBounded}
use Rattle.meaning.specs.Names.{names_of, word_in}
use Rattle.unroll.proofs.Claims.{on_true_map, true_on}
use Rattle.unroll.proofs.instances.are_layers_shown.Goals as goal

pub returns : goal.returns
returns c =
    let found = alternatives (trees_in c.args.items.now) in
    let written = alternatives (trees_in c.args.written.items.now) in
    let own = map relation_in c.args.own.now in
    let word = word_in own (names_of c.args.names.now) in
    let n = length c.args.names.now in
    let found_so : c.in_ok-is_layered.field-0 ≡ true = search (rules, c.if-not-branch.false) in
    let layered : IsLayered found written (λ p. is_among p own) word n = true_on _ _ c.in_ok-is_layered.ensures.says found_so in
    let well = c.accepted_items_are_well_formed.ensures (trees_in c.args.written.items.now) c.requires.faultless in
    if_ok c.is_bounded.result _ _ (λ is_so. on_true_map is_so _ _ (λ bounds.
    c.what_is_layered_is_answered.ensures found written (λ p. is_among p own) word n well layered
    (subst (λ (out : List Alternative). IsBounded out (λ p. is_among p own) word n) c.requires.same
    (bounds found (subst (λ (out : List Alternative). IsLayered found out (λ p. is_among p own) word n) (sym c.requires.same) layered)))))
    c.is_bounded.ensures
