use Rattle.kif.specs.View.{trees_in}
use Rattle.unroll_strata.proofs.accepted.accept.Goals as goal

pub returns-in-Err-clause-fault : goal.returns-in-Err-clause-fault
returns-in-Err-clause-fault c = c.in-Err.ensures.fault (trees_in c.args.items.now)
