use Rattle.std.proofs.Common.{true, ◌≡◌, map, rules, sym, ◌∙◌}
use Rattle.kif.specs.View.{tree_of}
use Rattle.rules_relations.specs.Relations.{relation_in}
use Rattle.unroll_layers.proofs.TestLemmas.{kind_is}
use Rattle.unroll_layers.proofs.kinds.is_of_kind.Goals as goal

pub returns : goal.returns
returns c =
    let h : c.heads.result ≡ true = search (rules, c.if-not-heads.false) in
    c.is_count.ensures
    ∙ kind_is (map relation_in c.args.own.now) (relation_in c.args.relation.now) c.args.is_inner (tree_of c.args.item.now) _ _ c.split_item.ensures.body
    (sym c.heads.ensures ∙ h) c.count_own.ensures
