use Rattle.kif.specs.View.{trees_in}
use Rattle.unroll.proofs.unrolling.draft_of.Goals as goal

pub returns-in-Err : goal.returns-in-Err
returns-in-Err c = c.too_many.ensures (trees_in c.args.items.now)
