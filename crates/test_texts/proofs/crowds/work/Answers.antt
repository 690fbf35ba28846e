use Rattle.std.proofs.Common.{rules, ◌≡◌, ◌+◌, ◌-◌, ◌%◌, ◌<◌, length, slice_index, ap, arith}
use Rattle.board.specs.Boards.{kept, table_of}
use Rattle.board.specs.Books.{seen}
use Rattle.board.specs.Seats.{book}
use Rattle.board.specs.Windows.{Answers}
use Rattle.board.proofs.Facts.{task_in}
use Rattle.test_texts.proofs.crowds.work.Goals as goal

pub bounds-values-own : goal.bounds-values-own
bounds-values-own g c =
    let t = c.in-Some.ensures.task.0 in
    let own : c.own.result ≡ c.in-Some.task.own = c.own.ensures in
    omega (arith, task_in c.args.board.now.terms.replies.items _ _ t.number t.own, c.requires.long, own)

pub report-requires-clause-answers : goal.report-requires-clause-answers
report-requires-clause-answers g c =
    let t = c.in-Some.ensures.task.0 in
    let i = c.in-Some.task.own in
    let near : i < length c.args.values.now = omega (arith, task_in c.args.board.now.terms.replies.items _ _ t.number t.own, c.requires.long) in
    let own : c.own.result ≡ i = c.own.ensures in
    let v = table_of g.V.Values.value i c.in-Some.task.reply in
    let worth : v ≡ slice_index c.args.values.now i % 7 + 2 = ap kept (c.requires.table i c.in-Some.task.reply near) in
    let there : slice_index c.args.values.now c.own.result ≡ slice_index c.args.values.now i = ap (λ j. slice_index c.args.values.now j) own in
    let found : kept c.bound_of-value.result ≡ slice_index c.args.values.now c.own.result % 7 + 2 = c.bound_of-value.ensures.0 in
    let low = (book c.window.new.s).best - c.args.board.now.terms.margin in
    let high = seen (book c.window.new.s) i in
    let right : Answers v low high (kept c.bound_of-value.result) = (omega (arith, worth, there, found), omega (arith, worth, there, found)) in
    search (rules, right)
