use Rattle.std.proofs.Common.{◌+◌, List, ℕ, get_or, sym, subst, arith}
use Rattle.game.proofs.Facts.{row_fits}
use Rattle.search_table.specs.declared.entry.Entry.{Entry}
use Rattle.search_table.specs.Says.{Says}
use Rattle.search_table.specs.Rows.{RowHolds}
use Rattle.search_table.proofs.RowLemmas.{few_rows}
use Rattle.search_table.proofs.rows.known_in.Goals as goal

pub overflow_add-e-end : goal.overflow_add-e-end
overflow_add-e-end c = let few = few_rows (c.args.first + 4) c.args.stride _ c.requires.some_words c.requires.bucket in omega arith

pub row_at-row-requires : goal.row_at-row-requires
row_at-row-requires c = row_fits c.loop-e.e (c.args.first + 4) c.args.stride _ (omega arith) c.requires.bucket

pub returns-then-is_row_of : goal.returns-then-is_row_of
returns-then-is_row_of c = λ worth few holds.
    let row = c.row_at-row.result.now in
    let is = c.is_row_of.ensures c.if-is_row_of.true in
    let here : RowHolds worth row = subst (λ (ws : List ℕ). RowHolds worth ws) (sym c.row_at-row.ensures) (holds c.loop-e.e (omega arith)) in
    subst (λ (e : Entry). Says e (worth c.args.key.now)) (sym c.read_entry.ensures.says)
    (here (get_or row 0 0) c.args.key.now is.0 is.1)
