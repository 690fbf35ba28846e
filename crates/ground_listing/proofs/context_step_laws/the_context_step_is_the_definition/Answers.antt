use Rattle.ground_listing.proofs.ContextListed.{excess_same, context_shown, context_listed}
use Rattle.ground_listing.proofs.context_step_laws.the_context_step_is_the_definition.Goals as goal

pub returns-clause-limits : goal.returns-clause-limits
returns-clause-limits c = excess_same

pub returns-clause-shown : goal.returns-clause-shown
returns-clause-shown c = context_shown

pub returns-clause-listed : goal.returns-clause-listed
returns-clause-listed c = context_listed
