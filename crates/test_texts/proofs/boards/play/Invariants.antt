use Rattle.std.proofs.Common.{◌≡◌, []}
use Rattle.board.specs.Books.{all_shares}
use Rattle.board.specs.Seats.{book, IsSeatOf}
use Rattle.test_texts.proofs.boards.play.Given as goal

abbrev pub invariant-steps : goal.invariant-steps
invariant-steps g l = IsSeatOf l.board l.seat × ((book l.seat).hand ≡ []) × ((book l.seat).shares ≡ all_shares)
