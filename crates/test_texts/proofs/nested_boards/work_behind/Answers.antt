use Rattle.std.proofs.Common.{rules, ◌≡◌, ◌+◌, ◌-◌, min, max, ap, ◌∙◌, arith}
use Rattle.board.specs.Boards.{kept}
use Rattle.board.specs.Books.{seen}
use Rattle.board.specs.Windows.{BoundsWithin}
use Rattle.board.specs.Seats.{book, setup_on, task_own}
use Rattle.board.specs.declared.book.Book.{Book}
use Rattle.test_texts.proofs.nested_boards.work_behind.Goals as goal

pub loop-reply-preserved-in-Some-window : goal.loop-reply-preserved-in-Some-window
loop-reply-preserved-in-Some-window c =
    let was = c.loop-reply.invariant.4 in
    let k = book c.look-lo.new.s in
    let l = book c.report_in.new.s in
    let low_now : kept c.look-lo.result.0 + (setup_on c.args.outer.now).margin ≡ k.best = c.look-lo.ensures.bounds.low in
    let high_now : kept c.look-lo.result.1 ≡ seen k (task_own c.args.task.now) = c.look-lo.ensures.bounds.high in
    let low_next : l.low ≡ max (book c.window.new.s).low (kept c.look-lo.result.0 + (setup_on c.args.inner.now).margin) = search rules in
    let high_next : l.high ≡ min (book c.window.new.s).high (kept c.look-lo.result.1) = search rules in
    let low_same : (book c.window.new.s).low ≡ (book c.loop-reply.seat).low =
    ap (λ (u : Book). u.low) c.window.ensures.looked.read ∙ ap (λ (u : Book). u.low) c.in-Some.ensures.hand in
    let high_same : (book c.window.new.s).high ≡ (book c.loop-reply.seat).high =
    ap (λ (u : Book). u.high) c.window.ensures.looked.read ∙ ap (λ (u : Book). u.high) c.in-Some.ensures.hand in
    let within : BoundsWithin (k.best - (setup_on c.args.outer.now).margin) (seen k (task_own c.args.task.now)) (setup_on c.args.inner.now) l = (
      omega (arith, was.0, c.look-lo.ensures.looked.narrower.best, low_now, low_next, low_same, c.requires.ties),
      omega (arith, was.1, c.look-lo.ensures.looked.narrower.uppers (task_own c.args.task.now), high_now, high_next, high_same),
    ) in
    search (rules, within)
