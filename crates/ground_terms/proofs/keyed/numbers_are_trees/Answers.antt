use Rattle.ground_terms.proofs.KeyTrees.{different, keys_kept}
use Rattle.ground_terms.proofs.keyed.numbers_are_trees.Goals as goal

pub returns : goal.returns
returns c = record { different = different; kept = keys_kept }
