use Rattle.std.proofs.Common.{sym, ap, drop, ◌+◌, ◌∙◌}
use Rattle.std.specs.Prelude.{◌||◌, Bool}
use Rattle.statement.specs.Clause.{relation_of, relation_eq}
use Rattle.statement.specs.Items.{item_head}
use Rattle.kif.specs.View.{tree_of, trees_in}
use Rattle.rules_relations.specs.Asking.{heads_it, some_item}
use Rattle.rules_relations.proofs.Gathered.{one_set, item_first, relation_sym}
use Rattle.rules_relations.proofs.sets.stated_in.Goals as goal

pub loop-item-preserved : goal.loop-item-preserved
loop-item-preserved g c = λ p.
    let head = relation_of (item_head (tree_of c.item-item.result)) in
    let rest = some_item (heads_it p) (trees_in (drop (c.loop-item.item-index + 1) c.args.items.now)) in
    one_set _ _ _ _ _ _ (c.in_ok-insert.ensures p)
    (item_first (heads_it p) c.args.items.now c.loop-item.item-index c.item-item.result c.loop-item-test.true c.item-item.is
    ∙ ap (λ (b : Bool). b || rest) (relation_sym head p ∙ ap (relation_eq p) (sym c.head_of.ensures)))
    (c.loop-item.invariant p)
