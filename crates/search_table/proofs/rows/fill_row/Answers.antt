use Rattle.search_table.proofs.RowLemmas.{row_filled}
use Rattle.search_table.proofs.rows.fill_row.Goals as goal

pub returns : goal.returns
returns c = row_filled c.args.row.now c.copy_from_slice.new.self c.args.key.now c.args.word c.requires c.copy_from_slice.ensures.after
