use Rattle.std.proofs.Common.{◌≡◌, ◌-◌, []}
use Rattle.board.specs.Values.{tasks}
use Rattle.board.specs.Plays.{reach}
use Rattle.board.specs.Seats.{book, setup_on, IsSeatOf}
use Rattle.test_texts.proofs.crowds.roll.Given as goal

-- each task that is claimed is above those that the seat had
abbrev pub decreases-loop-task : goal.decreases-loop-task
decreases-loop-task l = tasks (setup_on l.board) - reach (book l.seat)

abbrev pub invariant-loop-task : goal.invariant-loop-task
invariant-loop-task l = IsSeatOf l.board l.seat × ((book l.seat).hand ≡ []) × ((book l.seat).shares ≡ (book l.initial.seat).shares)
