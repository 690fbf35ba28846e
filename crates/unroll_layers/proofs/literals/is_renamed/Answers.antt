use Rattle.std.proofs.Common.{map, ◌∙◌}
use Rattle.kif.specs.View.{tree_of}
use Rattle.rules_relations.specs.Relations.{relation_in}
use Rattle.unroll_layers.specs.Naming.{words_in}
use Rattle.unroll_layers.proofs.TestLemmas.{renamed_is}
use Rattle.unroll_layers.proofs.literals.is_renamed.Goals as goal

pub returns : goal.returns
returns c =
    c.is_atom_of.ensures
    ∙ renamed_is (map relation_in c.args.own.now) (words_in c.args.names.now) (tree_of c.args.first.now) (tree_of c.args.second.now) _ _ _
    c.split_atom.ensures c.name_of-name.ensures
