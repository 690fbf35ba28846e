use Rattle.std.proofs.Common.{◌≡◌, drop}
use Rattle.std.specs.Prelude.{◌&&◌}
use Rattle.kif.specs.View.{trees_in}
use Rattle.rules_relations.specs.Relations.{relation_in}
use Rattle.rules_relations.specs.Asking.{links_them, some_item}
use Rattle.rules_relations.proofs.items.some_links.Given as goal

abbrev pub invariant-loop-item : goal.invariant-loop-item
invariant-loop-item g l = some_item (links_them (relation_in l.from) (relation_in l.to)) (trees_in l.items) ≡ some_item (links_them (relation_in l.from) (relation_in l.to)) (trees_in (drop l.item-index l.items))
