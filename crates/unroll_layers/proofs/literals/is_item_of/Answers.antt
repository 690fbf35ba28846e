use Rattle.std.proofs.Common.{map, sym, ◌∙◌}
use Rattle.kif.specs.View.{tree_of}
use Rattle.rules_relations.specs.Relations.{relation_in}
use Rattle.unroll_layers.specs.Naming.{words_in}
use Rattle.unroll_layers.proofs.TestLemmas.{both_hold, item_is}
use Rattle.unroll_layers.proofs.literals.is_item_of.Goals as goal

pub returns-then-is_head : goal.returns-then-is_head
returns-then-is_head c =
    both_hold _ _ _ (sym c.is_renamed-is_head.ensures ∙ c.if-is_head.true) c.are_literals_of.ensures
    ∙ item_is (map relation_in c.args.own.now) (words_in c.args.names.now) (words_in c.args.before.now) (tree_of c.args.first.now)
    (tree_of c.args.second.now) _ _ _ _ c.split_item.ensures.head c.split_item-2.ensures.head c.split_item.ensures.body
    c.split_item-2.ensures.body
