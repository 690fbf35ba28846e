use Rattle.unroll_strata.proofs.StepLemmas.{based_alternatives}
use Rattle.unroll_strata.proofs.step_laws.based_items_say_what_can_be.Goals as goal

pub returns : goal.returns
returns c = based_alternatives
