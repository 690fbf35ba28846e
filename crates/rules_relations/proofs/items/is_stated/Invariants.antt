use Rattle.std.proofs.Common.{◌≡◌, drop}
use Rattle.std.specs.Prelude.{◌&&◌}
use Rattle.kif.specs.View.{trees_in}
use Rattle.rules_relations.specs.Relations.{relation_in}
use Rattle.rules_relations.specs.Asking.{heads_it, asks_it, some_item}
use Rattle.rules_relations.proofs.items.is_stated.Given as goal

abbrev pub invariant-loop-item : goal.invariant-loop-item
invariant-loop-item g l = some_item (heads_it (relation_in l.relation)) (trees_in l.items) ≡ some_item (heads_it (relation_in l.relation)) (trees_in (drop l.item-index l.items))
