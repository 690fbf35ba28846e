use Rattle.std.proofs.Common.{rules, ◌≡◌, ◌+◌, take, arith, slice_index}
use Rattle.board.specs.Values.{task_count}
use Rattle.board.proofs.Numbers.{starts_step, count_step, count_some}
use Rattle.board.proofs.numbering.starts_of.Goals as goal

pub overflow_add-total : goal.overflow_add-total
overflow_add-total c =
    let rs = c.args.replies.now in
    let i = c.loop-count.count-index in
    omega (arith, c.loop-count.invariant.1, count_step rs i (omega arith), count_some rs (i + 1), c.requires)

pub loop-count-preserved : goal.loop-count-preserved
loop-count-preserved c =
    let rs = c.args.replies.now in
    let i = c.loop-count.count-index in
    let next : c.loop-count.total + slice_index rs i ≡ task_count (take (i + 1) rs) =
    omega (arith, c.loop-count.invariant.1, count_step rs i (omega arith)) in
    (rw (starts_step rs i (c.loop-count.total + slice_index rs i) (omega arith) next) (search rules), next)
