use Rattle.std.proofs.Common.{ℕ, ◌*◌, List}
use Rattle.search_table.specs.Rows.{RowsHold}
use Rattle.search_table.proofs.rows.spread_rows.Given as goal

-- what held holds
abbrev pub invariant-loop-e : goal.invariant-loop-e
invariant-loop-e l = (worth : List ℕ → ℕ → ℕ) → RowsHold worth l.fn.words l.stride (2 * l.entries)
    → RowsHold worth l.words l.stride (2 * l.entries)
