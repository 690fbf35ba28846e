use Rattle.std.proofs.Common.{◌+◌, ◌*◌, pos, false, slice_index}
use Rattle.test_texts.proofs.boards.boards_that_are_opened_without_ties.Given as goal

-- the values are those of the bytes
abbrev pub ghosts-play : goal.ghosts-play
ghosts-play g a = record { value = λ i j. pos (slice_index a.values.now (2 * i + j)); narrows = false }
