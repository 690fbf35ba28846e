use Rattle.std.proofs.Common.{arith}
use Rattle.search_split.proofs.Products.{too_many}
use Rattle.search_split.proofs.cut.Cut.new.Goals as goal

pub returns-then-threads-gt-MOST_THREADS-clause-none : goal.returns-then-threads-gt-MOST_THREADS-clause-none
returns-then-threads-gt-MOST_THREADS-clause-none c cut = too_many c.args.levels.now c.loop-workers.workers-index c.loop-workers.threads
    c.from-threads.result cut
    (omega arith) c.from-threads.ensures c.loop-workers.invariant.part (omega arith)
