use Rattle.std.proofs.Common.{arith}
use Rattle.game_rules.specs.GroundFacts.{few_atoms}
use Rattle.game_rules.proofs.kinds.kind_of.Goals as goal

pub overflow_cast-atom : goal.overflow_cast-atom
overflow_cast-atom c = let few = few_atoms c.args.ground.now in omega arith
