use Rattle.propnet.proofs.NodesLaw.{nodes_law}
use Rattle.propnet.proofs.laws.nodes_are_those_of_the_rules.Goals as goal

pub returns : goal.returns
returns c = λ rules g is net of. nodes_law rules g is net of
