use Rattle.search_table.proofs.position_table.PositionTable.store.Goals as goal

pub returns-clause-table : goal.returns-clause-table
returns-clause-table c = λ g keyed role at table found. c.put.ensures.table g keyed role at (c.grow.ensures.table g keyed role at table) found
