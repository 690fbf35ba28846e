use Rattle.std.proofs.Common.{◌+◌, ◌*◌, ◌≤◌, length, ◌∙◌, arith}
use Rattle.game.proofs.Facts.{key_written, key_kept}
use Rattle.search_table.proofs.rows.write_row.Goals as goal

pub returns-clause-here : goal.returns-clause-here
returns-clause-here c =
    let words = c.args.words.now in
    let stride = c.args.stride in
    let e = c.args.e in
    let room : e * stride + stride ≤ length words = c.requires.place in
    key_written words c.fill_row.new.row stride e _ (omega arith) (omega (arith, c.fill_row.auto.row)) ∙ c.fill_row.ensures

pub returns-clause-others : goal.returns-clause-others
returns-clause-others c = λ f other.
    let words = c.args.words.now in
    let stride = c.args.stride in
    let e = c.args.e in
    let room : e * stride + stride ≤ length words = c.requires.place in
    key_kept words c.fill_row.new.row stride e _ f (omega arith) (omega arith) (omega (arith, c.fill_row.auto.row)) other
