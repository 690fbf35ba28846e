use Rattle.search_table.proofs.rows.spread_rows.Goals as goal

pub loop-e-preserved : goal.loop-e-preserved
loop-e-preserved c = λ worth before. c.move_row.ensures worth (c.loop-e.invariant worth before)
