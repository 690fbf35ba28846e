use Rattle.kif.specs.View.{trees_in}
use Rattle.unroll_strata.proofs.lawful_items.role_places.Goals as goal

pub returns-in-Err-clause-fault : goal.returns-in-Err-clause-fault
returns-in-Err-clause-fault c = c.refusal_of.ensures (trees_in c.args.items.now) c.in-Err.ensures.faults
