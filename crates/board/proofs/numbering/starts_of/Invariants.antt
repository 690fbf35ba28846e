use Rattle.std.proofs.Common.{◌≡◌, take}
use Rattle.board.specs.Values.{task_count, starts_from}
use Rattle.board.proofs.numbering.starts_of.Given as goal

abbrev pub invariant-loop-count : goal.invariant-loop-count
invariant-loop-count l = (l.starts.items ≡ starts_from 0 (take l.count-index l.replies)) × (l.total ≡ task_count (take l.count-index l.replies))
