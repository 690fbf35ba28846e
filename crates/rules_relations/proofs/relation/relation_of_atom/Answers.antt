use Rattle.statement.specs.Items.{atom_in}
use Rattle.kif.specs.View.{tree_of}
use Rattle.rules_relations.proofs.Looking.{head_relation}
use Rattle.rules_relations.proofs.relation.relation_of_atom.Goals as goal

pub returns : goal.returns
returns g c = head_relation (atom_in (tree_of c.args.e.now)) _ _ c.split_atom.ensures
