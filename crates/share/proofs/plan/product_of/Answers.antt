use Rattle.std.proofs.Common.{arith}
use Rattle.board.specs.Values.{most_tasks}
use Rattle.search_split.proofs.Facts.{more_than}
use Rattle.share.proofs.plan.product_of.Goals as goal

pub returns-then-total-from-clause-none : goal.returns-then-total-from-clause-none
returns-then-total-from-clause-none c each = more_than c.args.numbers.now c.loop-number.number-index c.loop-number.total c.from-total.result
    most_tasks
    (λ k below. each k 0 below) (omega arith) c.from-total.ensures c.loop-number.invariant.part (omega arith)
