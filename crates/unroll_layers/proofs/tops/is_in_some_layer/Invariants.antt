use Rattle.std.proofs.Common.{◌≡◌, map, drop}
use Rattle.std.specs.List.{list_any}
use Rattle.statement.specs.Items.{atom_in}
use Rattle.rules_relations.specs.Relations.{relation_in}
use Rattle.kif.specs.View.{tree_of}
use Rattle.meaning.specs.Names.{names_of}
use Rattle.unroll_layers.specs.Layering.{is_renamed}
use Rattle.unroll_layers.proofs.tops.is_in_some_layer.Given as goal

abbrev pub invariant-loop-names : goal.invariant-loop-names
invariant-loop-names l =
    list_any (λ names. is_renamed (map relation_in l.own) names (atom_in (tree_of l.first)) (tree_of l.second)) (names_of l.layers)
    ≡ list_any (λ names. is_renamed (map relation_in l.own) names (atom_in (tree_of l.first)) (tree_of l.second)) (names_of (drop l.names-index l.layers))
