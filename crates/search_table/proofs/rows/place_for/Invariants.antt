use Rattle.std.proofs.Common.{◌+◌, ◌<◌}
use Rattle.search_table.proofs.rows.place_for.Given as goal

-- the place is one of the bucket
abbrev pub invariant-loop-e : goal.invariant-loop-e
invariant-loop-e l = l.place < l.first + 4
