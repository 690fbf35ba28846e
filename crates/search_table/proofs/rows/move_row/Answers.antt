use Rattle.std.proofs.Common.{◌+◌, ◌*◌, length, arith}
use Rattle.game.proofs.Facts.{row_fits}
use Rattle.search_table.proofs.RowLemmas.{rows_moved, few_rows}
use Rattle.search_table.proofs.rows.move_row.Goals as goal

pub row_at-row-requires : goal.row_at-row-requires
row_at-row-requires c =
    let place = c.requires.place in
    let size = c.requires.size in
    row_fits c.args.e (2 * c.args.entries) c.args.stride _ (omega arith) (omega arith)

pub is_in_place-requires-clause-few : goal.is_in_place-requires-clause-few
is_in_place-requires-clause-few c =
    let size = c.requires.size in
    let few = few_rows (2 * c.args.entries) c.args.stride (length c.args.words.now) c.requires.some_words (omega arith) in
    omega arith

pub overflow_add-to : goal.overflow_add-to
overflow_add-to c =
    let size = c.requires.size in
    let place = c.requires.place in
    let few = few_rows (2 * c.args.entries) c.args.stride (length c.args.words.now) c.requires.some_words (omega arith) in
    omega arith

pub copy_row-requires-clause-from : goal.copy_row-requires-clause-from
copy_row-requires-clause-from c =
    let place = c.requires.place in
    let size = c.requires.size in
    row_fits c.args.e (2 * c.args.entries) c.args.stride _ (omega arith) (omega arith)

pub copy_row-requires-clause-to : goal.copy_row-requires-clause-to
copy_row-requires-clause-to c =
    let place = c.requires.place in
    let size = c.requires.size in
    row_fits (c.args.e + c.args.entries) (2 * c.args.entries) c.args.stride _ (omega arith) (omega arith)

pub empty_row-requires-clause-place : goal.empty_row-requires-clause-place
empty_row-requires-clause-place c =
    let place = c.requires.place in
    let size = c.requires.size in
    let same = c.copy_row.auto.words in
    row_fits c.args.e (2 * c.args.entries) c.args.stride _ (omega arith) (omega arith)

pub returns : goal.returns
returns c = λ worth.
    let entries = c.args.entries in
    let place = c.requires.place in
    rows_moved worth c.args.words.now c.copy_row.new.words c.empty_row.new.words c.args.stride (2 * entries) c.args.e (c.args.e + entries)
    (omega arith) (omega arith) c.copy_row.ensures.here c.copy_row.ensures.others c.empty_row.ensures.here c.empty_row.ensures.others
