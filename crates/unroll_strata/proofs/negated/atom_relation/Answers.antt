use Rattle.statement.specs.Items.{atom_in}
use Rattle.kif.specs.View.{tree_of}
use Rattle.unroll_strata.proofs.WalkLemmas.{relation_is}
use Rattle.unroll_strata.proofs.negated.atom_relation.Goals as goal

pub returns : goal.returns
returns c = relation_is (atom_in (tree_of c.args.e.now)) _ _ c.split_atom.ensures
