use Rattle.std.proofs.Common.{rules, ◌-◌, ℕ, subst, arith}
use Rattle.board.specs.Boards.{kept}
use Rattle.board.specs.Books.{seen}
use Rattle.board.specs.Windows.{Answers, IsNarrower}
use Rattle.board.specs.Seats.{book, setup_on, task_own}
use Rattle.board.proofs.Facts.{still_held, inner_serve}
use Rattle.test_texts.proofs.nested_boards.answer.Goals as goal

pub report-requires-clause-task : goal.report-requires-clause-task
report-requires-clause-task c = (
  c.requires.task.0,
  still_held c.args.task.number _ _ _ (book c.args.seat) (book c.args.above) (book
      c.join-seat.result) (book c.window.new.s) c.join-seat.ensures.book c.window.ensures.looked.read c.requires.task.1,
)

pub skip-requires-clause-task : goal.skip-requires-clause-task
skip-requires-clause-task c = (
  c.requires.task.0,
  still_held c.args.task.number _ _ _ (book c.args.seat) (book c.args.above) (book
      c.join-seat.result) (book c.window.new.s) c.join-seat.ensures.book c.window.ensures.looked.read c.requires.task.1,
)

pub report-requires-clause-answers : goal.report-requires-clause-answers
report-requires-clause-answers c =
    let l = book c.args.behind in
    let r = kept c.finish-value.result.0 in
    let i = task_own c.args.task in
    let w = book c.window.new.s in
    let t = (setup_on c.args.outer.now).margin in
    let from : IsNarrower (book c.args.seat) (book c.join-seat.result) = c.join-seat.ensures.narrower.0 in
    let also : IsNarrower (book c.args.above) (book c.join-seat.result) = c.join-seat.ensures.narrower.1 in
    let on : IsNarrower (book c.join-seat.result) w = c.window.ensures.looked.narrower in
    let found : Answers 42 l.low l.high r = subst (λ (v : ℕ). Answers v l.low l.high r) c.requires.worth (search rules) in
    let right : Answers 42 (w.best - t) (seen w i) r =
    inner_serve (setup_on c.args.inner) l 42 ((book c.args.above).best - t) (seen (book c.args.above) i) (w.best - t) (seen w i) r c.requires.bounds
    (omega (arith, also.best, on.best)) (omega (arith, also.uppers i, on.uppers i)) (omega (arith, c.requires.low, from.best, on.best))
    (omega (arith, c.requires.high, from.uppers i, on.uppers i)) found in
    search (rules, right)
