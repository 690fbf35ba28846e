use Rattle.kif.specs.View.{trees_in}
use Rattle.unroll_strata.proofs.lawful_items.is_recursive.Goals as goal

pub returns-in_default-fault : goal.returns-in_default-fault
returns-in_default-fault c = record {
  yes = tt;
  no = tt;
  fault = c.refusal_of.ensures (trees_in c.args.items.now) c.in-Err.ensures.refused;
}
