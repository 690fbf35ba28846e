use Rattle.std.proofs.Common.{IsTrue, not, ◌&&◌, ◌||◌}
use Rattle.std.specs.List.{AllWithin}
use Rattle.kif.specs.View.{tree_of}
use Rattle.rules_relations.specs.Relations.{relation_in}
use Rattle.rules_relations.specs.Asking.{asks_it}
use Rattle.unroll_strata.proofs.unstated.first_asking.Given as goal

abbrev pub invariant-loop-place : goal.invariant-loop-place
invariant-loop-place l =
    AllWithin (λ item. ¬ IsTrue ((not l.one.is_stated && asks_it (relation_in l.one.relation) (tree_of item))
    || (not l.other.is_stated && asks_it (relation_in l.other.relation) (tree_of item)))) l.items 0 l.place
