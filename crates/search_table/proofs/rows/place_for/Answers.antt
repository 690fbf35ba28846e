use Rattle.std.proofs.Common.{◌+◌, arith}
use Rattle.game.proofs.Facts.{row_fits}
use Rattle.search_table.proofs.RowLemmas.{few_rows}
use Rattle.search_table.proofs.rows.place_for.Goals as goal

pub overflow_add-e-end : goal.overflow_add-e-end
overflow_add-e-end c = let few = few_rows (c.args.first + 4) c.args.stride _ c.requires.some_words c.requires.bucket in omega arith

pub row_at-row-requires : goal.row_at-row-requires
row_at-row-requires c = row_fits c.loop-e.e (c.args.first + 4) c.args.stride _ (omega arith) c.requires.bucket
