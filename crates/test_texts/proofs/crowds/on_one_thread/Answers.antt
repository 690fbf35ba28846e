use Rattle.std.proofs.Common.{rules, ◌≡◌, length, ap, arith}
use Rattle.board.specs.Values.{moves}
use Rattle.board.specs.Seats.{setup_on}
use Rattle.board.specs.declared.book.Setup.{Setup}
use Rattle.test_texts.proofs.crowds.on_one_thread.Goals as goal

pub work-seat-requires-clause-long : goal.work-seat-requires-clause-long
work-seat-requires-clause-long g c =
    let many : moves (setup_on c.in_ok-board.board) ≡ length c.as_slice.result.now = ap (λ (o : Setup). moves o) c.in_ok-board.ensures.board in
    let same : length c.as_slice.result.now ≡ c.args.moves = search rules in
    omega (arith, many, same, c.requires.long)
