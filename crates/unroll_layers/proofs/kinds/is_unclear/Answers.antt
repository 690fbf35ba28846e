use Rattle.std.proofs.Common.{true, false, ◌≡◌, map, rules, sym, ◌∙◌}
use Rattle.kif.specs.View.{tree_of}
use Rattle.rules_relations.specs.Relations.{relation_in}
use Rattle.unroll_layers.proofs.TestLemmas.{not_single, many_own}
use Rattle.unroll_layers.proofs.kinds.is_unclear.Goals as goal

pub returns-then-not-are_single : goal.returns-then-not-are_single
returns-then-not-are_single c =
    let h : c.heads_one.result ≡ true = search (rules, c.if-not-heads_one.false) in
    let s : c.are_single.result ≡ false = search (rules, c.if-not-are_single.true) in
    not_single (map relation_in c.args.own.now) c.args.keeps (tree_of c.args.item.now) _ c.split_item.ensures.body (sym c.heads_one.ensures ∙ h)
    (sym c.are_single.ensures ∙ s)

pub returns : goal.returns
returns c =
    let h : c.heads_one.result ≡ true = search (rules, c.if-not-heads_one.false) in
    let s : c.are_single.result ≡ true = search (rules, c.if-not-are_single.false) in
    c.is_too_many.ensures
    ∙ many_own (map relation_in c.args.own.now) c.args.keeps (tree_of c.args.item.now) _ _ c.split_item.ensures.body (sym c.heads_one.ensures ∙ h)
    (sym c.are_single.ensures ∙ s) c.count_own.ensures
