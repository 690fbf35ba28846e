use Rattle.std.proofs.Common.{sym, ap, drop, ◌+◌, ◌∙◌, ◌≡◌, map, rules}
use Rattle.std.specs.Prelude.{◌||◌, Bool}
use Rattle.statement.specs.Dependence.{is_among}
use Rattle.kif.specs.View.{tree_of, trees_in}
use Rattle.rules_relations.specs.Relations.{relation_in}
use Rattle.rules_relations.specs.Asking.{asks_it, body_literals, some_item}
use Rattle.rules_relations.proofs.Gathered.{one_set, item_first, asked_among}
use Rattle.rules_relations.proofs.sets.asked_in.Goals as goal

pub loop-item-preserved : goal.loop-item-preserved
loop-item-preserved g c = λ p.
    let same : c.in_ok-asked.asked.items ≡ c.deref.result.now = search rules in
    let rest = some_item (asks_it p) (trees_in (drop (c.loop-item.item-index + 1) c.args.items.now)) in
    one_set _ _ _ _ _ _ (c.in_ok-insert_all.ensures p)
    (item_first (asks_it p) c.args.items.now c.loop-item.item-index c.item-item.result c.loop-item-test.true c.item-item.is
    ∙ ap (λ (b : Bool). b || rest)
    (asked_among p (body_literals (tree_of c.item-item.result)) ∙ ap (is_among p) (sym c.in_ok-asked.ensures) ∙ ap (λ rs. is_among p (map relation_in rs)) same))
    (c.loop-item.invariant p)
