use Rattle.std.proofs.Common.{ℕ, List, ap, refl, ◌∙◌, ◌*◌, ◌+◌, ◌≤◌, length, arith}
use Rattle.game.specs.Keys.{key_at}
use Rattle.game.proofs.Facts.{key_written, key_kept}
use Rattle.search_table.proofs.RowLemmas.{copied_row, length-key_at}
use Rattle.search_table.proofs.rows.copy_row.Goals as goal

pub returns-clause-here : goal.returns-clause-here
returns-clause-here c =
    let words = c.args.words.now in
    let stride = c.args.stride in
    let e = c.args.e in
    let to = c.args.to in
    let room : to * stride + stride ≤ length words = c.requires.to in
    ap (λ (ws : List ℕ). key_at ws stride to) (c.copy_within.ensures.after ∙ copied_row words stride e to c.requires.from)
    ∙ key_written words (key_at words stride e) stride to stride (omega arith) (length-key_at words stride e c.requires.from)

pub returns-clause-others : goal.returns-clause-others
returns-clause-others c = λ f other.
    let words = c.args.words.now in
    let stride = c.args.stride in
    let e = c.args.e in
    let to = c.args.to in
    let room : to * stride + stride ≤ length words = c.requires.to in
    ap (λ (ws : List ℕ). key_at ws stride f) (c.copy_within.ensures.after ∙ copied_row words stride e to c.requires.from)
    ∙ key_kept words (key_at words stride e) stride to stride f (omega arith) refl (length-key_at words stride e c.requires.from) other
