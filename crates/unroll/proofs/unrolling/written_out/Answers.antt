use Rattle.kif.specs.View.{trees_in}
use Rattle.unroll.proofs.unrolling.written_out.Goals as goal

pub returns-in-Err : goal.returns-in-Err
returns-in-Err c = c.in-Err.ensures (trees_in c.args.items.now)
