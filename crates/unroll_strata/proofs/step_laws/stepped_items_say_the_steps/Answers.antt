use Rattle.unroll_strata.proofs.StepLemmas.{step_alternatives}
use Rattle.unroll_strata.proofs.step_laws.stepped_items_say_the_steps.Goals as goal

pub returns : goal.returns
returns c = step_alternatives
