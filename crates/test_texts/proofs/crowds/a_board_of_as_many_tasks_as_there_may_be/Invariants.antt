use Rattle.std.proofs.Common.{◌≡◌, ◌%◌, pos, false, slice_index, length}
use Rattle.test_texts.proofs.crowds.a_board_of_as_many_tasks_as_there_may_be.Given as goal

-- the values are those of the bytes
abbrev pub ghosts-on_one_thread : goal.ghosts-on_one_thread
ghosts-on_one_thread g a = record { value = λ i j. pos (slice_index a.values.now i % 7); narrows = false }

abbrev pub invariant-loop-i : goal.invariant-loop-i
invariant-loop-i g l = length l.values.items ≡ l.i
