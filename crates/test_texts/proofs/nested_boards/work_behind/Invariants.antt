use Rattle.std.proofs.Common.{◌≡◌, ◌-◌, []}
use Rattle.board.specs.Values.{tasks}
use Rattle.board.specs.Plays.{reach}
use Rattle.board.specs.Books.{seen}
use Rattle.board.specs.Windows.{BoundsWithin}
use Rattle.board.specs.Seats.{book, setup_on, task_own, IsSeatOf}
use Rattle.test_texts.proofs.nested_boards.work_behind.Given as goal

abbrev pub decreases-loop-reply : goal.decreases-loop-reply
decreases-loop-reply l = tasks (setup_on l.inner) - reach (book l.seat)

abbrev pub invariant-loop-reply : goal.invariant-loop-reply
invariant-loop-reply l = IsSeatOf l.outer l.above × IsSeatOf l.inner l.seat × ((book l.seat).hand ≡ [])
    × ((book l.seat).shares ≡ (book l.initial.seat).shares)
    × BoundsWithin ((book l.above).best - (setup_on l.outer).margin) (seen (book l.above) (task_own l.task)) (setup_on l.inner) (book l.seat)
