use Rattle.std.proofs.Common.{rules, ◌≡◌, ◌+◌, ap, arith, nat_eq, pos}
use Rattle.std.specs.Prelude.{if◌then◌else◌}
use Rattle.board.specs.Values.{best_worth}
use Rattle.board.specs.Boards.{kept, table_of}
use Rattle.board.specs.Books.{seen}
use Rattle.board.specs.Seats.{book, setup_on, task_own}
use Rattle.board.specs.declared.book.Book.{Book}
use Rattle.board.specs.declared.book.Setup.{Setup}
use Rattle.test_texts.proofs.nested_boards.an_inner_board_answers_for_a_task.Goals as goal

pub work_behind-above-requires-clause-ties : goal.work_behind-above-requires-clause-ties
work_behind-above-requires-clause-ties g c = ap (λ (o : Setup). o.margin) c.in_ok-inner.ensures.board

pub answer-value-requires-clause-low : goal.answer-value-requires-clause-low
answer-value-requires-clause-low g c =
    let opened : (setup_on c.in_ok-inner.inner).low ≡ kept c.in-Some-window.lo =
    search (rules, ap (λ (o : Setup). o.low) c.in_ok-inner.ensures.board) in
    let found : kept c.in-Some-window.lo + (setup_on c.in_ok-outer.outer).margin ≡ (book c.window.new.s).best = search rules in
    let part : (book c.split-seat.result.0).best ≡ (book c.window.new.s).best = ap (λ (u : Book). u.best) c.split-seat.ensures.first.1 in
    omega (arith, opened, found, part)

pub answer-value-requires-clause-high : goal.answer-value-requires-clause-high
answer-value-requires-clause-high g c =
    let i = task_own c.in-Some.task in
    let opened : (setup_on c.in_ok-inner.inner).high ≡ kept c.in-Some-window.hi =
    search (rules, ap (λ (o : Setup). o.high) c.in_ok-inner.ensures.board) in
    let found : kept c.in-Some-window.hi ≡ seen (book c.window.new.s) i = search rules in
    let part : seen (book c.split-seat.result.0) i ≡ seen (book c.window.new.s) i = ap (λ (u : Book). seen u i) c.split-seat.ensures.first.1 in
    omega (arith, opened, found, part)

pub answer-value-requires-clause-worth : goal.answer-value-requires-clause-worth
answer-value-requires-clause-worth g c =
    ap (λ (o : Setup). best_worth (table_of (λ i j. if nat_eq i 0 then pos 10 else pos 40)) o) c.in_ok-inner.ensures.board
